use Rattle.mv_storage.proofs.Common.{◌≡◌, length, AreNoted, IsSound, ShowsSame, Committed}
use Rattle.mv_storage.specs.Slots.{IsRemembered, KeepsPinned}
use Rattle.mv_storage.proofs.slots.resolve_all.Given as goal
use Rattle.mv_storage.proofs.Steps.{AreResolving}

-- what is left to touch holds each slot that is changed, the layer shows what it showed, and what is remembered is so
abbrev pub invariant-loop-key : goal.invariant-loop-key
invariant-loop-key l = record {
  sound : IsSound l.places;
  remembered : IsRemembered l.places.tree l.known.lines;
  noted : AreNoted l.places l.touched.items;
  resolving : AreResolving l.places l.touched.items;
  same : ShowsSame l.layer l.initial.places l.places;
  pinned : l.layer ≡ Committed → KeepsPinned l.initial.places l.places;
}

abbrev pub decreases-loop-key : goal.decreases-loop-key
decreases-loop-key l = length l.touched.items
