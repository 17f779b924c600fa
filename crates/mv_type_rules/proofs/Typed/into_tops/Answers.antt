use Rattle.mv_type_rules.proofs.Common.{◌∙◌}
use Rattle.mv_type_rules.proofs.TopLemmas.{tops-listed}
use Rattle.mv_type_rules.proofs.Typed.into_tops.Goals as goal

pub invariant_of-result : goal.invariant_of-result
invariant_of-result c =
    let inside = c.self.inside in
    (c.self.invariant.0, c.in_ok-stacks.ensures ∙ tops-listed inside.bounded inside.stacks.items inside.bounded.functions c.self.invariant.3)
