use Rattle.mv_bounds.proofs.Common.{◌≡◌, take, true, list_all, function_in}
use Rattle.mv_bounds.proofs.indices.functions_in.Given as goal

abbrev pub invariant-loop-f : goal.invariant-loop-f
invariant-loop-f l = list_all (function_in l.m) (take l.f l.m.functions) ≡ true
