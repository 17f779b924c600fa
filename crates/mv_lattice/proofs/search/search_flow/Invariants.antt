use Rattle.std.proofs.Common.{sum}
use Rattle.mv_lattice.specs.Search.{NoneBefore}
use Rattle.mv_lattice.specs.Work.{IsSearch, OfEachStart}
use Rattle.mv_lattice.proofs.search.search_flow.Given as goal

abbrev pub invariant-loop-k : goal.invariant-loop-k
invariant-loop-k g l =
    let o = g.D.Domain.order l.d in
    record {
      search : OfEachStart o l.g l.initial.left l.initial.states l.initial.waiting (λ start. IsSearch o l.g start l.left l.states l.waiting);
      rest : NoneBefore l.waiting l.from;
    }

abbrev pub decreases-loop-k : goal.decreases-loop-k
decreases-loop-k g l = sum l.left
