use Rattle.mv_interface.proofs.Common.{◌≡◌, StructDefinition, length, map, parts_by, take}
use Rattle.mv_interface.proofs.interface.parts_of.Given as goal

-- the parts of the structs so far
abbrev pub invariant-loop-d : goal.invariant-loop-d
invariant-loop-d l = record {
  so_far : l.parts ≡ map (λ (d : StructDefinition). parts_by l.structs d.fields) (take l.d-index l.m.structs);
  count : length l.parts ≡ l.d-index;
}
