use Rattle.moveledger.proofs.Endings.{ends_after}
use Rattle.moveledger.proofs.AfterRecords.{ends_by}
use Rattle.moveledger.proofs.reporting.report.Goals as goal

pub returns-clause-ends : goal.returns-clause-ends
returns-clause-ends g c =
    rw (c.end_of.ensures) (ends_after c.answer_from-answered.new.answered c.answer_from-answered.result c.is_ok-is_flushed.result _ _ _ _ _ _ _ c.answer_from-answered.ensures.ends.ok c.answer_from-answered.ensures.ends.taken c.answer_from-answered.ensures.ends.err c.answer_from-answered.ensures.ends.read c.answer_from-answered.ensures.ends.memory c.flush.ensures.bytes)

pub returns-clause-done : goal.returns-clause-done
returns-clause-done g c =
    rw (c.end_of.ensures) (ends_by _ _ c.answer_from-answered.new.answered c.answer_from-answered.result c.is_ok-is_flushed.result c.answer_from-answered.ensures.done c.answer_from-answered.ensures.until)
