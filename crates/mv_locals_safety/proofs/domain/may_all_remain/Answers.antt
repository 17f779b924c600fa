use Rattle.std.proofs.Common.{arith, sym, ◌∙◌}
use Rattle.mv_locals_safety.proofs.Tables.{remain_first, remain_yes, remain_no}
use Rattle.mv_locals_safety.proofs.domain.may_all_remain.Goals as goal

pub returns-then-s-count : goal.returns-then-s-count
returns-then-s-count c = c.may_each_remain.ensures ∙ sym (remain_first c.args.m.now c.args.parameters.now c.args.others.now c.args.s.now (omega arith))

pub returns-then-may_each_remain : goal.returns-then-may_each_remain
returns-then-may_each_remain c =
    remain_yes c.args.m.now c.args.parameters.now c.args.others.now c.args.s.now c.split_at.result.0.now c.split_at.result.1.now (omega arith) c.split_at.ensures.front c.split_at.ensures.back
    c.may_each_remain-2.result c.may_each_remain-then-may_each_remain.result c.may_each_remain-2.ensures c.if-may_each_remain.true c.may_each_remain-then-may_each_remain.ensures

pub returns-else-may_each_remain : goal.returns-else-may_each_remain
returns-else-may_each_remain c =
    remain_no c.args.m.now c.args.parameters.now c.args.others.now c.args.s.now c.split_at.result.0.now c.split_at.result.1.now (omega arith) c.split_at.ensures.front c.split_at.ensures.back
    c.may_each_remain-2.result c.may_each_remain-2.ensures c.if-may_each_remain.false
