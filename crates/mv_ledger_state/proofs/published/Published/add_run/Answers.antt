use Rattle.mv_ledger_state.proofs.Common.{◌∙◌, ap, arith, length, map, subst, sym, All, CanCount, tally_after, HasRoomLeft, PublishedView, all_of}
use Rattle.mv_ledger_state.proofs.Marks.{can-count, held-after}
use Rattle.mv_ledger_state.proofs.Runs.ScarceTallies.{scarce-ordered}
use Rattle.mv_ledger_state.proofs.TalliedStores.{counted-held}
use Rattle.mv_ledger_state.proofs.published.Published.add_run.Goals as goal

pub add_run-requires-clause-room : goal.add_run-requires-clause-room
add_run-requires-clause-room c = subst (λ (p : PublishedView). All HasRoomLeft (all_of p.tallies)) (sym c.self.view_is) c.requires.room

pub add_run-requires-clause-ordered : goal.add_run-requires-clause-ordered
add_run-requires-clause-ordered c = scarce-ordered _ _ c.self.invariant.0.scarce

pub add_run-requires-clause-notes : goal.add_run-requires-clause-notes
add_run-requires-clause-notes c =
    let p = c.self.inside in
    can-count p.blocks p.store p.tallies (length c.args.run.now) c.self.invariant.1 (subst (λ (v : PublishedView). CanCount (length c.args.run.now) v) (sym c.self.view_is) c.requires.notes)

pub add_run-requires-clause-ascend : goal.add_run-requires-clause-ascend
add_run-requires-clause-ascend c = c.self.invariant.1.ascend

pub invariant_of-self : goal.invariant_of-self
invariant_of-self c =
    let p = c.self.inside in
    let b = c.add_run.new.blocks in (
      counted-held p.store p.tallies c.self.invariant.0 c.args.run.now _ c.add_run.ensures.after,
      held-after p.blocks (record b { room = 0 }) p.store p.store p.tallies _ c.self.invariant.1 c.add_run.ensures.ascend (omega (arith, b.noted.ok.1)) (c.add_run.ensures.held p.store),
    )

pub returns-clause-modules : goal.returns-clause-modules
returns-clause-modules c = ap (λ (p : PublishedView). p.modules) c.self.view_is

pub returns-clause-tallies : goal.returns-clause-tallies
returns-clause-tallies c = c.add_run.ensures.after ∙ ap (λ (p : PublishedView). map (map (tally_after c.args.run.now)) p.tallies) c.self.view_is

pub returns-clause-marks : goal.returns-clause-marks
returns-clause-marks c = c.add_run.ensures.held c.self.inside.store ∙ ap (λ (p : PublishedView). p.marks) c.self.view_is
