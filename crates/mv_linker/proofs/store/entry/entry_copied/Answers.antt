use Rattle.mv_linker.proofs.Common.{◌∙◌, refl}
use Rattle.mv_linker.proofs.store.entry.entry_copied.Goals as goal

pub invariant_of-result : goal.invariant_of-result
invariant_of-result c = rw (c.in_ok-module.ensures.items ∙ c.deref.ensures.value, c.in_ok-identifier.ensures.items ∙ c.as_slice.ensures.value) c.requires

pub returns : goal.returns
returns c = rw (c.in_ok-module.ensures.items ∙ c.deref.ensures.value, c.in_ok-certificate.ensures.items ∙ c.deref-2.ensures.value) refl
