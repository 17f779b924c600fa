use Rattle.std.proofs.Common.{◌∙◌}
use Rattle.mv_bit_sets.proofs.BitSet.copied.Goals as goal

pub invariant_of-result : goal.invariant_of-result
invariant_of-result c = rw (c.in_ok-words.ensures.items ∙ c.deref.ensures.value) c.self.invariant

pub returns : goal.returns
returns c = c.in_ok-words.ensures.items ∙ c.deref.ensures.value ∙ c.self.view_is
