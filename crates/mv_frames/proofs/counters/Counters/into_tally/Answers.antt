use Rattle.std.proofs.Common.{◌∙◌, List, ap}
use Rattle.mv_machine.specs.declared.StructTally.{StructTally}
use Rattle.mv_frames.specs.Counters.{counts_in, placed_in, tallies_of}
use Rattle.mv_frames.proofs.Tallied.{indexed-tallied}
use Rattle.mv_frames.proofs.counters.Counters.into_tally.Goals as goal

pub returns-clause-tallied : goal.returns-clause-tallied
returns-clause-tallied c = λ d.
    indexed-tallied c.self.inside.tallies.items (placed_in c.self.inside.places.entries) c.self.invariant d
    ∙ ap (λ (ts : List StructTally). tallies_of d (counts_in ts d)) c.self.view_is
