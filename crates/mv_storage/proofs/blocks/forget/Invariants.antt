use Rattle.mv_storage.proofs.Common.{length, IsSound, ShowsSame, Current}
use Rattle.mv_storage.specs.Slots.{AreKept}
use Rattle.mv_storage.specs.Blocks.{AreClearing}
use Rattle.mv_storage.proofs.blocks.forget.Given as goal

abbrev pub invariant-loop-change : goal.invariant-loop-change
invariant-loop-change l = record {
  sound : IsSound l.places;
  kept : AreKept l.places;
  clearing : AreClearing l.places l.undo.items;
  same : ShowsSame Current l.initial.places l.places;
}

abbrev pub decreases-loop-change : goal.decreases-loop-change
decreases-loop-change l = length l.undo.items
