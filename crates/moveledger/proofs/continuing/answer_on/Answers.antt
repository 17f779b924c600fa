use Rattle.moveledger.proofs.AfterRecords.{never-failed}
use Rattle.moveledger.proofs.continuing.answer_on.Goals as goal

pub returns-clause-write : goal.returns-clause-write
returns-clause-write g c failed = never-failed (c.answer_from.ensures.write failed)
