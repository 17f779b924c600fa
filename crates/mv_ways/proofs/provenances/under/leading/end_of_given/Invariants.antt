use Rattle.mv_edges.proofs.Common.{◌≡◌, ◌<◌, ◌≤◌, ℕ, get_or, length, false}
use Rattle.mv_ways.specs.declared.provenances.under.leading.Mark.{Mark}
use Rattle.mv_ways.specs.Going.{was_given}
use Rattle.mv_ways.proofs.provenances.under.leading.end_of_given.Given as goal

-- none behind is marked so
abbrev pub invariant-loop-end : goal.invariant-loop-end
invariant-loop-end l = record {
  within : l.end ≤ length l.marks;
  none : (k : ℕ) (d : Mark) → l.end ≤ k → k < length l.marks → was_given (get_or l.marks k d) ≡ false;
}

abbrev pub decreases-loop-end : goal.decreases-loop-end
decreases-loop-end l = l.end
