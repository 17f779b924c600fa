use Rattle.mv_uleb.proofs.Spelled.{IsUleb-uleb}
use Rattle.mv_uleb.proofs.has_form.Goals as goal

pub returns : goal.returns
returns c = IsUleb-uleb
