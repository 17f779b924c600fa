use Rattle.mv_bounds.proofs.Common.{◌==◌, ◌≡◌, length, Field, all_differ}
use Rattle.mv_bounds.proofs.duplicates.field_names_differ.Given as goal

abbrev pub invariant-loop-first : goal.invariant-loop-first
invariant-loop-first l =
    all_differ (λ (x y : Field). x.name == y.name) l.fields ≡ all_differ (λ (x y : Field). x.name == y.name) l.left

abbrev pub decreases-loop-first : goal.decreases-loop-first
decreases-loop-first l = length l.left
