use Rattle.mv_binary_format.proofs.Common.{◌∙◌, subst, HasText}
use Rattle.mv_binary_format.proofs.Held.{first_held}
use Rattle.mv_binary_format.proofs.module.Module.parts.Goals as goal

pub returns-clause-value : goal.returns-clause-value
returns-clause-value c = first_held c.self.inside.parts.items c.index.result.now c.self.invariant.0 c.index.ensures ∙ c.self.view_is

pub returns-clause-text : goal.returns-clause-text
returns-clause-text c = subst HasText c.self.view_is c.self.invariant.1
