use Rattle.std.proofs.Common.{arith}
use Rattle.moveledger_c.proofs.Asked.{goes_on-next}
use Rattle.moveledger_c.proofs.shows.go_on.Goals as goal

pub returns-in-Some : goal.returns-in-Some
returns-in-Some c = goes_on-next c.args.next c.in-Some.next _ c.to_be_bytes.result c.in-Some.is c.to_be_bytes.ensures (omega arith)
