use Rattle.mv_storage.proofs.Common.{[], ◌++◌, ◌∙◌, ◌∷◌, ◌≡◌, ◌≤◌, ap, arith, length, subst, sym}
use Rattle.std.proofs.Common.{◌+◌, drop, length-append}
use Rattle.mv_undo.specs.Undo.{undone}
use Rattle.mv_storage.specs.Blocks.{back, IsUndoable}
use Rattle.mv_storage.specs.Slots.{layers}
use Rattle.mv_storage.proofs.Undoing.{committed-back, placed-last, undoable-back}
use Rattle.mv_storage.proofs.blocks.take_back.Goals as goal

pub restore-requires-clause-pinned : goal.restore-requires-clause-pinned
restore-requires-clause-pinned c =
    placed-last c.loop-undo.places c.pop.new.self.items c.in-Some.change (subst (IsUndoable c.loop-undo.places) c.in-Some.ensures.items c.loop-undo.invariant.undoable)

pub loop-undo-preserved-in-Some : goal.loop-undo-preserved-in-Some
loop-undo-preserved-in-Some c =
    let t = c.loop-undo.places in
    let n = c.restore.new.places in
    let us = c.pop.new.self.items in
    let u = c.in-Some.change in
    let was : c.loop-undo.undo.items ≡ us ++ u ∷ [] = c.in-Some.ensures.items in
    let count : length c.loop-undo.undo.items ≡ length us + 1 = ap length was ∙ length-append us (u ∷ []) in
    let room : c.args.mark ≤ length us = omega (arith, c.loop-undo-test.true, c.len.ensures, count) in
    record {
      sound = c.restore.ensures.sound;
      kept = c.restore.ensures.kept;
      undoable = undoable-back t n us u (subst (IsUndoable t) was c.loop-undo.invariant.undoable) c.restore.ensures.others c.restore.ensures.here;
      mark = room;
      same = λ m le. committed-back t n us u m c.loop-undo.invariant.sound.ordered c.restore.ensures.sound.ordered c.restore.ensures.committed (omega (arith, le, room))
          ∙ ap (λ x. undone back (drop m x) (layers t).committed) (sym was) ∙ c.loop-undo.invariant.same m le;
    }
