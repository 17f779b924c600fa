use Rattle.mv_saved_text.proofs.Common.{◌∙◌, arith, sym, err_from_is_err_and, entry_from}
use Rattle.mv_saved_text.proofs.Loads.Extending.{entry-extends}
use Rattle.mv_saved_text.proofs.Loads.Filling.{Rises-start, Rises-next, Rises-unread, Rises-falls}
use Rattle.mv_saved_text.proofs.loading.values.group.Goals as goal

pub each-init : goal.each-init
each-init c = rw c.reserve.ensures (Rises-start (entry_from c.args.layouts.now c.args.known) c.in_ok-count.count c.args.reader.now c.number.new.reader c.args.filling.now c.in_ok-count.ensures.reads)

pub returns-in_err-next-clause-refused : goal.returns-in_err-next-clause-refused
returns-in_err-next-clause-refused c =
    let p = err_from_is_err_and c.from_residual-in_err-next.result c.from_residual-in_err-next.ensures.1 in
    rw (p.1, p.2)
    (Rises-unread (entry_from c.args.layouts.now c.args.known) c.in_ok-count.count c.args.reader.now c.number.new.reader c.each._number c.args.filling.now c.each.filling c.each.last c.each.reader
    c.in_err-next.field-0.0 (omega arith) c.in_err-next.ensures.refused c.each.invariant)

pub returns-then-not-follows-clause-refused : goal.returns-then-not-follows-clause-refused
returns-then-not-follows-clause-refused c =
    Rises-falls (entry_from c.args.layouts.now c.args.known) c.in_ok-count.count c.args.reader.now c.number.new.reader c.each._number c.args.filling.now c.each.filling c.each.last c.each.reader _ _
    (entry-extends c.args.layouts.now c.args.known) (omega arith) c.in_ok-next.ensures.ok (sym c.follows.ensures ∙ c.if-not-follows.true) c.each.invariant

pub each-preserved : goal.each-preserved
each-preserved c =
    rw c.in_ok-add.ensures.ok
    (Rises-next (entry_from c.args.layouts.now c.args.known) c.in_ok-count.count c.args.reader.now c.number.new.reader c.each._number c.args.filling.now c.each.filling c.each.last c.each.reader _ _
    (entry-extends c.args.layouts.now c.args.known) (omega arith) c.in_ok-next.ensures.ok (sym c.follows.ensures ∙ c.if-not-follows.false) c.each.invariant)
