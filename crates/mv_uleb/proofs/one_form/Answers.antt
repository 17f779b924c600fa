use Rattle.mv_uleb.proofs.Spelled.{one_form}
use Rattle.mv_uleb.proofs.one_form.Goals as goal

pub returns : goal.returns
returns c = λ a b x y m n p q e. one_form a b x y m n p q e
