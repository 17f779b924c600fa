use Rattle.mv_bounds.proofs.Common.{◌≡◌, take, true, list_all, token_in}
use Rattle.mv_bounds.proofs.indices.signatures_in.Given as goal

abbrev pub invariant-loop-i : goal.invariant-loop-i
invariant-loop-i l = list_all (list_all (token_in l.m)) (take l.i l.m.signatures) ≡ true
