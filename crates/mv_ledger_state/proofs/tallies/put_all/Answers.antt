use Rattle.mv_ledger_state.proofs.Common.{◌<◌, ◌∙◌, ap, arith, length, lists_of, refl, subst, sym, with_placed, AreWithin, List, Placed}
use Rattle.mv_ledger_state.specs.Blocks.{CanNote}
use Rattle.mv_ledger_state.proofs.Marks.{can-one, can-rest}
use Rattle.mv_ledger_state.proofs.Bundles.Placing.{joining-room, joining-next, joining-done}
use Rattle.mv_ledger_state.proofs.tallies.put_all.Goals as goal

pub loop-one-init : goal.loop-one-init
loop-one-init c =
    let gives = c.into_iter-one-iterator.ensures.into_iter_gives in
    record {
      joining = record {
        whole_is = refl;
        within = subst (AreWithin (length (lists_of c.args.modules.now.items))) (sym gives.0) c.requires.within;
        placed = c.requires.placed;
        fits = omega (arith, ap length gives.0, c.requires.fits);
      };
      notes = subst (λ (ps : List Placed). CanNote (length ps) c.args.blocks.now) (sym gives.0) c.requires.notes;
      ascend = c.requires.ascend;
      held = λ published. refl;
    }

pub put-before-requires : goal.put-before-requires
put-before-requires c = joining-room _ _ _ _ _ _ _ c.loop-one.invariant.joining c.in-Some.ensures.steps.0

pub note-requires : goal.note-requires
note-requires c =
    let more : 0 < length c.loop-one.one-iterator.rest.items = omega (arith, ap length c.in-Some.ensures.steps.0) in
    can-one c.loop-one.blocks (length c.loop-one.one-iterator.rest.items) more c.loop-one.invariant.notes

pub loop-one-preserved : goal.loop-one-preserved
loop-one-preserved c = record {
  joining = joining-next _ _ _ _ _ _ _ _ _ _ c.loop-one.invariant.joining c.in-Some.ensures.steps.0 c.put-before.ensures.lists c.put-before.ensures.len c.put-before.ensures.capacity;
  notes = can-rest c.loop-one.blocks c.note.new.self _ _ (ap length c.in-Some.ensures.steps.0) c.note.ensures.marks c.note.ensures.len c.note.ensures.capacity c.loop-one.invariant.notes;
  ascend = c.note.ensures.ascend c.loop-one.invariant.ascend;
  held = λ published.
      c.note.ensures.held c.loop-one.invariant.ascend published (lists_of c.loop-one.modules.items) (lists_of c.put-before.new.modules.items) c.put-before.ensures.back ∙ c.loop-one.invariant.held published;
}

pub returns-clause-lists : goal.returns-clause-lists
returns-clause-lists c =
    joining-done _ _ _ _ _ c.loop-one.invariant.joining (sym c.loop-one.one-iterator.rest.ok.0 ∙ c.in-None.ensures.steps.0)
    ∙ ap (with_placed (lists_of c.args.modules.now.items)) c.into_iter-one-iterator.ensures.into_iter_gives.0
