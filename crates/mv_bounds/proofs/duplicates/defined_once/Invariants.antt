use Rattle.mv_bounds.proofs.Common.{◌≡◌, true, defined_once}
use Rattle.std.proofs.Common.{slice_index}
use Rattle.mv_bounds.proofs.duplicates.defined_once.Given as goal

abbrev pub invariant-loop-h : goal.invariant-loop-h
invariant-loop-h l = defined_once (λ h. slice_index l.homes h) l.own l.h l.defined ≡ true
