use Rattle.mv_binary_format.proofs.Common.{arith}
use Rattle.mv_binary_format.proofs.Back.{all-are_bytes}
use Rattle.mv_binary_format.proofs.laws.are_bytes.Goals as goal

pub returns : goal.returns
returns c = all-are_bytes c.args.bytes.now (λ i. omega (arith, c.type_inv.bytes i))
