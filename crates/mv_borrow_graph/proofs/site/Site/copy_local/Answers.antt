use Rattle.mv_certificate_rules.specs.BorrowRules.{edges_after}
use Rattle.mv_borrow_graph.proofs.Rows.{copied_mutably}
use Rattle.mv_borrow_graph.proofs.site.Site.copy_local.Goals as goal

pub returns-in_ok-share-in-Some-MutableReference-clause-after : goal.returns-in_ok-share-in-Some-MutableReference-clause-after
unfolding edges_after
returns-in_ok-share-in-Some-MutableReference-clause-after c =
    rw (← c.local.ensures)
    (copied_mutably c.args.self.now c.args.local c.in-Some-MutableReference.field-0-0 c.args.s.now c.share-in-Some-MutableReference.new.self c.lend.new.self c.next-next.result c.local.result c.in-Some-MutableReference.field-0 c.lend.result
    c.in-Some-MutableReference.is c.in-Some-MutableReference.field-0-is
    c.in_ok-share-in-Some-MutableReference.ensures c.next-next.ensures c.lend.ensures (rw (← c.local.ensures) at c.requires.met))
