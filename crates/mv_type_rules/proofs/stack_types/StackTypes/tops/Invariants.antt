use Rattle.mv_type_rules.proofs.Common.{◌≡◌, take, tops_of}
use Rattle.mv_type_rules.proofs.stack_types.StackTypes.tops.Given as goal

-- the topmost types of the stacks so far
abbrev pub invariant-loop-at : goal.invariant-loop-at
invariant-loop-at l = l.tops ≡ tops_of (take l.at l.self)
