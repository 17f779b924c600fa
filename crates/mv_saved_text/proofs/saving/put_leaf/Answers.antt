use Rattle.mv_saved_text.proofs.Common.{◌^◌, arith, ltb-true, width_bits}
use Rattle.mv_saved_text.proofs.saving.put_leaf.Goals as goal

pub overflow_cast-n : goal.overflow_cast-n
overflow_cast-n c = omega (arith, ltb-true c.args.n 2 (rw c.in-Boolean.is at c.requires))

pub put_number-requires : goal.put_number-requires
put_number-requires c = ltb-true c.args.n (2 ^ width_bits c.in-Number.width) (rw c.in-Number.is at c.requires)

pub returns-in_ok-push-in-Boolean : goal.returns-in_ok-push-in-Boolean
returns-in_ok-push-in-Boolean c = rw c.in-Boolean.is c.in_ok-push-in-Boolean.ensures.items

pub returns-in-Number : goal.returns-in-Number
returns-in-Number c = rw c.in-Number.is c.put_number.ensures

pub returns-in-Address : goal.returns-in-Address
returns-in-Address c = rw c.in-Address.is c.put_address.ensures
