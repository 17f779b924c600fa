use Rattle.std.proofs.Common.{ap, ◌∙◌, arith}
use Rattle.mv_uleb.specs.Parsing.{number_from}
use Rattle.mv_uleb.proofs.Spelled.{number_from-parts, number_from-uleb}
use Rattle.mv_uleb.proofs.stands_by_form.Goals as goal

pub returns : goal.returns
returns c = λ max n bytes rest small ok. (
  number_from-parts max n bytes rest small ok,
  λ p. ap (λ z. number_from max z) p.0 ∙ number_from-uleb max n rest (omega (arith, p.1)) p.1,
)
