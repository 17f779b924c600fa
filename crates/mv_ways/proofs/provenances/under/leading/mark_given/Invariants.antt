use Rattle.mv_edges.proofs.Common.{◌≡◌, ℕ, ◌<◌, ◌==◌, ◌||◌, get_or, length, list_any, take}
use Rattle.mv_ways.specs.declared.provenances.under.leading.Mark.{Mark}
use Rattle.mv_ways.specs.Going.{does_lead, was_given}
use Rattle.mv_ways.proofs.provenances.under.leading.mark_given.Given as goal

-- those of the first provenances are marked, and what was marked
abbrev pub invariant-loop-over : goal.invariant-loop-over
invariant-loop-over l = record {
  room : length l.marks ≡ length l.fn.marks;
  leads : (k : ℕ) (d : Mark) → k < length l.fn.marks → does_lead (get_or l.marks k d) ≡ (does_lead (get_or l.fn.marks k d) || list_any (λ over. over == k) (take l.over-index l.provenances));
  given : (k : ℕ) (d : Mark) → k < length l.fn.marks → was_given (get_or l.marks k d) ≡ (was_given (get_or l.fn.marks k d) || list_any (λ over. over == k) (take l.over-index l.provenances));
}
