use Rattle.std.proofs.Common.{ap}
use Rattle.std.specs.Global.{Vec}
use Rattle.std.specs.Prelude.{ℕ}
use Rattle.moveledger_c.proofs.ledgers.bytes_of.Goals as goal

pub returns-in-Ok : goal.returns-in-Ok
returns-in-Ok c = (c.in-Ok.text, (c.in-Ok.is, ap (λ (v : Vec ℕ). v.items) c.into_bytes.ensures.value))
