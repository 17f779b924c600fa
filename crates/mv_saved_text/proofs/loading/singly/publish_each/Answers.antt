use Rattle.mv_saved_text.proofs.Common.{◌∙◌, refl, err_from_is_err_and}
use Rattle.mv_saved_text.proofs.Loads.Offering.{passed-more, passed-none, passed-stops}
use Rattle.mv_saved_text.proofs.loading.singly.publish_each.Goals as goal

pub each-init : goal.each-init
each-init c = (passed-none c.args.offers.now, refl)

pub each-preserved : goal.each-preserved
each-preserved c =
    (passed-more c.args.offers.now c.each.offer-index _ c.each.invariant.0 c.each-test.true c.in_ok-publish_next.ensures.passed, c.publish_next.ensures.marks ∙ c.each.invariant.1)

pub returns-in_err-publish_next-clause-refused : goal.returns-in_err-publish_next-clause-refused
returns-in_err-publish_next-clause-refused c =
    let p = err_from_is_err_and c.from_residual.result c.from_residual.ensures.1 in
    rw (p.1, p.2) (passed-stops c.args.offers.now c.each.offer-index _ c.in_err-publish_next.field-0.0 c.each.invariant.0 c.each-test.true c.in_err-publish_next.ensures.refused)
