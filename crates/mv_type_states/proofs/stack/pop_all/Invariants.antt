use Rattle.mv_type_states.proofs.Common.{◌≡◌, length, reverse, taken}
use Rattle.mv_type_states.proofs.stack.pop_all.Given as goal

-- what is left to take of the stack as it is, is what was to be taken at first
abbrev pub invariant-loop-last : goal.invariant-loop-last
invariant-loop-last l = taken l.left (reverse l.stack.items) ≡ taken l.fn.wanted (reverse l.fn.stack.items)

abbrev pub decreases-loop-last : goal.decreases-loop-last
decreases-loop-last l = length l.left
