use Rattle.mv_interface.proofs.Common.{◌++◌, ◌+◌, ◌≡◌, parts_by, take, vec_len}
use Rattle.mv_interface.proofs.shapes.put_parts.Given as goal

-- the parts of the fields so far
abbrev pub invariant-loop-field : goal.invariant-loop-field
invariant-loop-field l = record {
  so_far : l.parts.items ≡ l.fn.parts.items ++ parts_by l.structs (take l.field-index l.fields);
  count : vec_len l.parts ≡ vec_len l.fn.parts + l.field-index;
}
