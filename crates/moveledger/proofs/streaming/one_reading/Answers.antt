use Rattle.moveledger.proofs.One.{one_reading_lem}
use Rattle.moveledger.proofs.streaming.one_reading.Goals as goal

pub returns : goal.returns
returns c input a b p q = one_reading_lem a b input p q
