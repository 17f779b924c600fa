use Rattle.mv_type_states.proofs.Common.{◌≡◌, length, map, reverse, taken}
use Rattle.mv_type_states.proofs.stack.pop_fields.Given as goal

-- what is left to take of the stack as it is, is what was to be taken at first
abbrev pub invariant-loop-last : goal.invariant-loop-last
invariant-loop-last l = taken (map (λ f. f.token) l.left) (reverse l.stack.items) ≡ taken (map (λ f. f.token) l.fn.fields) (reverse l.fn.stack.items)

abbrev pub decreases-loop-last : goal.decreases-loop-last
decreases-loop-last l = length l.left
