use Rattle.mv_interface.proofs.Common.{◌≡◌, length, take}
use Rattle.mv_interface.proofs.outline.identifiers_of.Given as goal

-- the identifiers so far
abbrev pub invariant-loop-i : goal.invariant-loop-i
invariant-loop-i l = record {
  so_far : l.identifiers ≡ take l.i l.m.identifiers;
  count : length l.identifiers ≡ l.i;
}
