use Rattle.std.proofs.Common.{◌≡◌, ℕ, ◌<◌, true, slice_get, IfSome}
use Rattle.mv_acquires.specs.Acquires.{acquires_are_right}
use Rattle.mv_acquires.proofs.are_lists_right.Given as goal

-- the lists of the functions so far are right
abbrev pub invariant-loop-f : goal.invariant-loop-f
invariant-loop-f l = (k : ℕ) → k < l.f → IfSome (slice_get l.m.functions k) (λ d. acquires_are_right l.m d ≡ true)
