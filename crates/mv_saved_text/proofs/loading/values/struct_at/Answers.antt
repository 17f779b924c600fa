use Rattle.mv_saved_text.proofs.Common.{err_from_is_err_and}
use Rattle.mv_saved_text.proofs.Loads.Unreading.{index-unread}
use Rattle.mv_saved_text.proofs.loading.values.struct_at.Goals as goal

pub returns-in_err-index-in-None-clause-refused : goal.returns-in_err-index-in-None-clause-refused
returns-in_err-index-in-None-clause-refused c =
    let p = err_from_is_err_and c.from_residual-in_err-index-in-None.result c.from_residual-in_err-index-in-None.ensures.1 in
    rw (p.1, p.2, c.in-None.is)
    (index-unread c.args.reader.now c.number.new.reader c.in_ok-place-in-None.place c.in_err-index-in-None.field-0.0 c.in_ok-place-in-None.ensures.reads c.in_err-index-in-None.ensures.refused)
