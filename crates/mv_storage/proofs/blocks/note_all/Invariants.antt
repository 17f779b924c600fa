use Rattle.mv_storage.proofs.Common.{◌≤◌, length, AreNoted, IsSound, ShowsSame, Current}
use Rattle.std.proofs.Common.{◌+◌}
use Rattle.std.specs.Vec.{vec_len, vec_capacity}
use Rattle.mv_storage.specs.Blocks.{IsNoted}
use Rattle.mv_storage.proofs.Steps.{AreResolving}
use Rattle.mv_storage.proofs.blocks.note_all.Given as goal

-- what is left to touch holds each slot that is changed, the run sees what it saw, and there is room for what is left
abbrev pub invariant-loop-key : goal.invariant-loop-key
invariant-loop-key l = record {
  sound : IsSound l.places;
  noted : AreNoted l.places l.touched.items;
  resolving : AreResolving l.places l.touched.items;
  same : ShowsSame Current l.initial.places l.places;
  room : vec_len l.undo + vec_len l.touched ≤ vec_capacity l.undo;
  kept : IsNoted l.initial.places l.places l.initial.undo.items l.undo.items;
}

abbrev pub decreases-loop-key : goal.decreases-loop-key
decreases-loop-key l = length l.touched.items
