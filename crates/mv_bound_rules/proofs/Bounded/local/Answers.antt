use Rattle.mv_bound_rules.proofs.Common.{◌++◌, ◌∙◌, ap, sym, slice_get}
use Rattle.mv_bound_rules.proofs.FunctionLemmas.{parameters_are, others_are, local_is}
use Rattle.mv_bound_rules.proofs.Bounded.local.Goals as goal

pub returns : goal.returns
returns c =
    let m = c.args.self.now in
    let d = c.defined.result.0.now in
    let h = c.defined.result.1.now in
    let ps = c.signature-parameters.result.now in
    let os = c.signature-others.result.now in
    local_is m c.args.f c.args.index ps os c.among.result
    (parameters_are m c.args.f d h ps c.defined.ensures c.signature-parameters.ensures)
    (others_are m c.args.f d h os c.defined.ensures (ap (slice_get m.signatures) (sym c.locals.ensures) ∙ c.signature-others.ensures))
    (c.among.ensures ∙ ap (slice_get (ps ++ os)) c.from.ensures)
