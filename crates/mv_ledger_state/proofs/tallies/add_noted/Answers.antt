use Rattle.mv_ledger_state.proofs.Common.{◌∙◌, ap, slice_set}
use Rattle.mv_ledger_state.specs.Blocks.{held_in}
use Rattle.mv_ledger_state.proofs.Marks.{counted-back, set-same}
use Rattle.mv_ledger_state.proofs.tallies.add_noted.Goals as goal

pub returns-in-Some-clause-held : goal.returns-in-Some-clause-held
returns-in-Some-clause-held c = λ a modules old there.
    c.note.ensures.held a modules old (slice_set old c.args.entry.now.place c.add_entry.new.tallies) (counted-back old c.args.entry.now.place _ _ c.args.tallies.now _ there c.in-Some.ensures.back)

pub returns-in_default-clause-held : goal.returns-in_default-clause-held
returns-in_default-clause-held c = λ a modules old there.
    let place = c.args.entry.now.place in
    ap (held_in c.args.blocks.now modules) (ap (slice_set old place) c.in_default.ensures.none ∙ set-same old place c.args.tallies.now there)
