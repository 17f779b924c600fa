use Rattle.mv_interface.proofs.Common.{◌≡◌, Field, map, take}
use Rattle.mv_interface.proofs.outline.put_names.Given as goal

-- the names of the fields so far
abbrev pub invariant-loop-field : goal.invariant-loop-field
invariant-loop-field l = l.names.items ≡ map (λ (f : Field). f.name) (take l.field-index l.fields)
