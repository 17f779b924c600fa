use Rattle.mv_saved_text.proofs.Common.{err_from_is_err_and, published_one}
use Rattle.mv_saved_text.proofs.loading.singly.publish_next.Goals as goal

pub returns-in_ok-done-in-None-clause-passed : goal.returns-in_ok-done-in-None-clause-passed
returns-in_ok-done-in-None-clause-passed c = (published_one c.in_ok-new.new, (c.in_ok-new.ensures.text, c.in_ok-new.ensures.certificate, c.in_ok-new.ensures.passes))

pub returns-in_ok-done-in-Some-clause-passed : goal.returns-in_ok-done-in-Some-clause-passed
returns-in_ok-done-in-Some-clause-passed c = (published_one c.in_ok-new.new, (c.in_ok-new.ensures.text, c.in_ok-new.ensures.certificate, c.in_ok-new.ensures.passes))

pub returns-in_err-new-clause-refused : goal.returns-in_err-new-clause-refused
returns-in_err-new-clause-refused c =
    let p = err_from_is_err_and c.from_residual.result c.from_residual.ensures.1 in
    rw (p.1, p.2) c.in_err-new.ensures.refused
