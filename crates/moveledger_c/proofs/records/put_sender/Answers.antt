use Rattle.std.proofs.Common.{arith}
use Rattle.moveledger_c.proofs.Fronts.{sender-put}
use Rattle.moveledger_c.proofs.records.put_sender.Goals as goal

pub returns : goal.returns
returns c = sender-put c.args.address c.to_be_bytes.result c.to_be_bytes.ensures (omega arith)
