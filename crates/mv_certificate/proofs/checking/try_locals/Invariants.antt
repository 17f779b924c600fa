use Rattle.mv_certificate.proofs.Common.{ℕ, ◌<◌, ◌≡◌, Some, slice_get, Stated, LocalsHoldAt}
use Rattle.mv_certificate.proofs.checking.try_locals.Given as goal

abbrev pub invariant-loop-f : goal.invariant-loop-f
invariant-loop-f l = (k : ℕ) → k < l.f → (s : Stated) → slice_get l.c k ≡ Some s → LocalsHoldAt l.m k s
