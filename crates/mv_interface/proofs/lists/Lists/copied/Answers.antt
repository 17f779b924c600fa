use Rattle.mv_interface.proofs.Common.{◌∙◌}
use Rattle.mv_interface.proofs.lists.Lists.copied.Goals as goal

pub invariant_of-result : goal.invariant_of-result
invariant_of-result g c =
    rw (c.in_ok-all.ensures.items ∙ c.deref.ensures.value, c.in_ok-spans.ensures.items ∙ c.deref-2.ensures.value) c.self.invariant

pub returns : goal.returns
returns g c =
    rw (c.in_ok-all.ensures.items ∙ c.deref.ensures.value, c.in_ok-spans.ensures.items ∙ c.deref-2.ensures.value) c.self.view_is
