use Rattle.std.proofs.Common.{◌≡◌, take}
use Rattle.mv_locals_safety.proofs.few.Few.of_slice.Given as goal

abbrev pub invariant-loop-a : goal.invariant-loop-a
invariant-loop-a l = l.few ≡ take l.a-index l.all
