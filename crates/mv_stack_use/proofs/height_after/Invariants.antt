use Rattle.std.proofs.Common.{◌≡◌, drop}
use Rattle.mv_stack_use.specs.Heights.{height_through}
use Rattle.mv_stack_use.proofs.height_after.Given as goal

-- the walk over all the instructions is the walk over those that are left, from the height so far
abbrev pub invariant-loop-i : goal.invariant-loop-i
invariant-loop-i l = height_through l.m l.d l.code 0 ≡ height_through l.m l.d (drop l.i-index l.code) l.height
