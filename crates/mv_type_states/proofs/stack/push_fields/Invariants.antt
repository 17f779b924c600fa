use Rattle.mv_type_states.proofs.Common.{◌++◌, ◌≡◌, map, take}
use Rattle.mv_type_states.proofs.stack.push_fields.Given as goal

-- the types of the fields so far are on the stack
abbrev pub invariant-loop-field : goal.invariant-loop-field
invariant-loop-field l = l.stack.items ≡ l.fn.stack.items ++ map (λ f. f.token) (take l.field-index l.fields)
