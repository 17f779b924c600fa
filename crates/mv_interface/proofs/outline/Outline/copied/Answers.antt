use Rattle.mv_interface.proofs.Common.{◌∙◌}
use Rattle.mv_interface.proofs.outline.Outline.copied.Goals as goal

pub invariant_of-result : goal.invariant_of-result
invariant_of-result c =
    rw (
      c.in_ok-identifiers.ensures,
      c.in_ok-structs.ensures.items ∙ c.deref.ensures.value,
      c.in_ok-functions.ensures.items ∙ c.deref-2.ensures.value,
      c.in_ok-structs_by_name.ensures.items ∙ c.deref-3.ensures.value,
      c.in_ok-functions_by_name.ensures.items ∙ c.deref-4.ensures.value,
    ) c.self.invariant

pub returns : goal.returns
returns c =
    rw (
      c.in_ok-identifiers.ensures,
      c.in_ok-structs.ensures.items ∙ c.deref.ensures.value,
      c.in_ok-fields.ensures,
      c.in_ok-functions.ensures.items ∙ c.deref-2.ensures.value,
    ) c.self.view_is
