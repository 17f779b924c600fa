use Rattle.mv_saved_text.proofs.Common.{arith, rules, err_from_is_err_and}
use Rattle.mv_saved_text.proofs.Loads.Filling.{Groups-start, Groups-next, Groups-unread}
use Rattle.mv_saved_text.proofs.loading.values.groups.Goals as goal

pub each-init : goal.each-init
each-init c = Groups-start c.args.layouts.now c.args.structs.now c.args.reader.now c.args.filling.now

pub returns-in_err-group-clause-refused : goal.returns-in_err-group-clause-refused
returns-in_err-group-clause-refused c =
    let p = err_from_is_err_and c.from_residual.result c.from_residual.ensures.1 in
    rw (p.1, p.2)
    (Groups-unread c.args.layouts.now c.args.structs.now c.args.reader.now c.each.at-index c.args.filling.now c.each.filling c.each.reader _ c.in_err-group.field-0.0 (omega arith) (search rules)
    c.in_err-group.ensures.refused c.each.invariant)

pub each-preserved : goal.each-preserved
each-preserved c =
    Groups-next c.args.layouts.now c.args.structs.now c.args.reader.now c.each.at-index c.args.filling.now c.each.filling c.group.new.filling c.each.reader c.group.new.reader _ (omega arith) (search rules)
    c.in_ok-group.ensures.ok c.each.invariant
