use Rattle.std.proofs.Common.{refl}
use Rattle.moveledger.proofs.FirstRecord.{no-length}
use Rattle.moveledger.proofs.records.length_at.Goals as goal

pub returns-in-Err : goal.returns-in-Err
returns-in-Err c = no-length _ (c.in-Err.ensures.refused refl)
