use Rattle.mv_ledger_state.proofs.Common.{arith, all-bytes}
use Rattle.mv_ledger_state.proofs.publishing.are_bytes.Goals as goal

pub returns : goal.returns
returns c = all-bytes c.args.bytes.now (λ i. omega (arith, c.type_inv.bytes i))
