use Rattle.mv_edges.proofs.Common.{◌≡◌, ℕ, ◌<◌, get_or, length}
use Rattle.mv_ways.specs.declared.provenances.under.leading.Mark.{Mark}
use Rattle.mv_ways.specs.declared.provenances.under.leading.Mark.TheVariants.{Nothing}
use Rattle.mv_ways.proofs.provenances.under.leading.unmark.Given as goal

-- those before the place are not marked
abbrev pub invariant-loop-mark : goal.invariant-loop-mark
invariant-loop-mark l = (k : ℕ) (d : Mark) → k < l.mark-index → k < length l.marks → get_or l.marks k d ≡ Nothing
