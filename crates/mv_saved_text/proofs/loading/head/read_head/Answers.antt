use Rattle.mv_saved_text.proofs.Common.{err_from_is_err_and, form_of}
use Rattle.mv_saved_text.proofs.Loads.UnreadHead.{modules-unread}
use Rattle.mv_saved_text.proofs.loading.head.read_head.Goals as goal

pub returns-in_err-offers-clause-refused : goal.returns-in_err-offers-clause-refused
returns-in_err-offers-clause-refused c =
    let p = err_from_is_err_and c.from_residual-in_err-offers.result c.from_residual-in_err-offers.ensures.1 in
    rw (p.1, p.2)
    (modules-unread c.args.reader.now c.marks.new.reader c.in_err-offers.field-0.0 c.in_ok-marks.ensures.ok (form_of c.in_ok-form.form) c.form.new.reader c.in_ok-form.ensures.ok
    c.in_ok-runs.runs c.number.new.reader c.in_ok-runs.ensures.reads c.in_err-offers.ensures.refused)
