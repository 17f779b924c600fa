use Rattle.mv_interface.proofs.Common.{◌≡◌, length, map, names_by, take}
use Rattle.mv_interface.proofs.outline.fields_of.Given as goal

-- the names of the fields of the structs so far
abbrev pub invariant-loop-d : goal.invariant-loop-d
invariant-loop-d l = record {
  so_far : l.fields ≡ map names_by (take l.d-index l.m.structs);
  count : length l.fields ≡ l.d-index;
}
