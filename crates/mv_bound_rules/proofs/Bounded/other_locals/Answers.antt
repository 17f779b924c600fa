use Rattle.mv_bound_rules.proofs.Common.{◌∙◌, ap, sym, slice_get}
use Rattle.mv_bound_rules.proofs.FunctionLemmas.{others_are}
use Rattle.mv_bound_rules.proofs.Bounded.other_locals.Goals as goal

pub returns : goal.returns
returns c = others_are c.args.self.now c.args.f c.defined.result.0.now c.defined.result.1.now c.signature.result.now c.defined.ensures (ap (slice_get c.args.self.now.signatures) (sym c.locals.ensures) ∙ c.signature.ensures)
