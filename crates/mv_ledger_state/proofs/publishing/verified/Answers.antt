use Rattle.mv_ledger_state.proofs.Common.{◌∙◌, Some, ap, sym, err_from_is_err_and}
use Rattle.mv_ledger_state.proofs.publishing.verified.Goals as goal

pub returns-in_err-typed-clause-refused : goal.returns-in_err-typed-clause-refused
returns-in_err-typed-clause-refused c =
    let p = err_from_is_err_and c.from_residual.result c.from_residual.ensures.1 in
    rw (p.1, p.2) (c.in_err-typed.ensures.refused c.args.offer.now.certificate.now)

pub returns-in_err-module-clause-refused : goal.returns-in_err-module-clause-refused
returns-in_err-module-clause-refused c =
    let p = err_from_is_err_and c.from_residual-in_err-module.result c.from_residual-in_err-module.ensures.1 in
    rw (p.1, p.2) (c.in_err-module.ensures.refused c.args.offer.now.text.now c.are_bytes.ensures c.in_ok-typed.ensures.text)

pub returns-clause-passes : goal.returns-clause-passes
returns-clause-passes c = c.in_ok-module.ensures.passes c.args.offer.now.text.now c.in_ok-typed.ensures.text

pub returns-clause-texts : goal.returns-clause-texts
returns-clause-texts c = record {
  text = c.in_ok-typed.ensures.read ∙ ap Some (sym c.in_ok-module.ensures.same);
  certificate = c.in_ok-module.ensures.certified;
}
