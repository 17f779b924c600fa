use Rattle.mv_storage.proofs.Common.{ℕ, ◌≡◌, ◌≤◌, length, IsSound}
use Rattle.std.proofs.Common.{drop}
use Rattle.mv_undo.specs.Undo.{undone}
use Rattle.mv_storage.specs.Slots.{layers, AreKept}
use Rattle.mv_storage.specs.Blocks.{back, IsUndoable}
use Rattle.mv_storage.proofs.blocks.take_back.Given as goal

abbrev pub invariant-loop-undo : goal.invariant-loop-undo
invariant-loop-undo l = record {
  sound : IsSound l.places;
  kept : AreKept l.places;
  undoable : IsUndoable l.places l.undo.items;
  mark : l.mark ≤ length l.undo.items;
  same : (m : ℕ) → m ≤ l.mark → undone back (drop m l.undo.items) (layers l.places).committed ≡ undone back (drop m l.initial.undo.items) (layers l.initial.places).committed;
}

abbrev pub decreases-loop-undo : goal.decreases-loop-undo
decreases-loop-undo l = length l.undo.items
