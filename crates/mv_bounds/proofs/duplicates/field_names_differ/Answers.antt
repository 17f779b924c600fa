use Rattle.mv_bounds.proofs.Common.{◌==◌, ◌∙◌, sym, Field}
use Rattle.mv_bounds.proofs.Distinct.{first_differs}
use Rattle.mv_bounds.proofs.duplicates.field_names_differ.Goals as goal

pub loop-first-preserved : goal.loop-first-preserved
loop-first-preserved c =
    first_differs (λ (x y : Field). x.name == y.name) c.args.fields.now c.loop-first.left.now c.in-Some.first.now c.in-Some.others.now c.loop-first.invariant c.in-Some.ensures.cases.0 (sym c.has_name.ensures ∙ c.if-has_name.false)
