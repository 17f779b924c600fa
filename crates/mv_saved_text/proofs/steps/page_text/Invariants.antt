use Rattle.mv_saved_text.proofs.Common.{◌++◌, ◌≡◌, length, All, AreLeaves}
use Rattle.mv_saved_text.specs.Parts.Steps.{values_coded}
use Rattle.mv_saved_text.proofs.steps.page_text.Given as goal

abbrev pub invariant-each : goal.invariant-each
invariant-each l = All (λ e. AreLeaves l.kinds e.words) l.page.values × (l.text.items ++ values_coded l.kinds l.page.values ≡ values_coded l.kinds l.fn.page.values)

abbrev pub decreases-each : goal.decreases-each
decreases-each l = length l.page.values
