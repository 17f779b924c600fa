use Rattle.mv_saved_text.proofs.Common.{err_from_is_err_and, form_of}
use Rattle.mv_saved_text.proofs.Loads.Unreading.{tally-unread}
use Rattle.mv_saved_text.proofs.loading.tallies.read_tally.Goals as goal

pub returns-in_err-unpacks-clause-refused : goal.returns-in_err-unpacks-clause-refused
returns-in_err-unpacks-clause-refused c =
    let p = err_from_is_err_and c.from_residual-in_err-unpacks.result c.from_residual-in_err-unpacks.ensures.1 in
    rw (p.1, p.2) (tally-unread (form_of c.args.form) c.args.reader.now c.count.new.reader c.in_ok-packs.packs c.in_err-unpacks.field-0.0 c.in_ok-packs.ensures.ok c.in_err-unpacks.ensures.refused)
