use Rattle.mv_ledger_state.proofs.Common.{◌+◌, ap, arith, nat_lt}
use Rattle.mv_ledger_state.proofs.published.is_too_much.Goals as goal

pub overflow_add-result : goal.overflow_add-result
overflow_add-result c = omega (arith, c.count_behind.ensures.few, c.requires)

pub returns : goal.returns
returns c = ap (λ n. nat_lt 4096 (c.args.count + n)) c.count_behind.ensures.count
