use Rattle.mv_bounds.proofs.Common.{◌≡◌, map, take}
use Rattle.mv_bounds.proofs.duplicates.identifiers.Given as goal

abbrev pub invariant-loop-i : goal.invariant-loop-i
invariant-loop-i l = map (λ name. name.now) l.names.items ≡ take l.i l.m.identifiers
