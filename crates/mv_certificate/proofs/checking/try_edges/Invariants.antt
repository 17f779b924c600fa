use Rattle.mv_certificate.proofs.Common.{ℕ, ◌<◌, ◌≡◌, Some, slice_get, Stated, EdgesHoldAt}
use Rattle.mv_certificate.proofs.checking.try_edges.Given as goal

abbrev pub invariant-loop-f : goal.invariant-loop-f
invariant-loop-f l = (k : ℕ) → k < l.f → (s : Stated) → slice_get l.c k ≡ Some s → EdgesHoldAt l.m k s
