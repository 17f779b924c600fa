use Rattle.mv_certificate.proofs.Common.{◌∙◌, ap}
use Rattle.mv_certificate.proofs.Lists.{function-next, lists}
use Rattle.mv_certificate.proofs.encode.Goals as goal

pub loop-stated-preserved : goal.loop-stated-preserved
loop-stated-preserved c =
    function-next c.deref-stated-items.result.now c.args.c.now c.loop-stated.stated-index c.stated-item.result c.deref.result.now c.loop-stated.out.items c.write_stated.new.out.items
    c.loop-stated-test.true c.stated-item.is (ap lists c.deref-stated-items.ensures.value ∙ c.c.view_is) c.deref.ensures.value c.loop-stated.invariant c.in_ok-write_stated.ensures
