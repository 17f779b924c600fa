use Rattle.mv_ledger_state.proofs.Common.{err_from_is_err_and}
use Rattle.mv_ledger_state.proofs.Unreading.{certificate-unread}
use Rattle.mv_ledger_state.proofs.payload.offer.Goals as goal

pub returns-in_err-certificate-clause-refused : goal.returns-in_err-certificate-clause-refused
returns-in_err-certificate-clause-refused c =
    let p = err_from_is_err_and c.from_residual-in_err-certificate.result c.from_residual-in_err-certificate.ensures.1 in
    rw (p.1, p.2)
    (certificate-unread c.args.reader.now c.sized.new.reader c.in_ok-text.text.now c.in_err-certificate.field-0.0 c.in_ok-text.ensures.ok c.in_err-certificate.ensures.refused)
