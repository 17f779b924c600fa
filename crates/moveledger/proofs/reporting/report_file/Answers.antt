use Rattle.moveledger.proofs.Endings.{ends_after_engine}
use Rattle.moveledger.proofs.reporting.report_file.Goals as goal

pub returns-clause-ends : goal.returns-clause-ends
returns-clause-ends g c =
    rw (c.end_of.ensures) (ends_after_engine _ c.engine.result c.map-answered.result c.is_ok.result _ _ _ _ _ _ _ c.map-answered.ensures.variant c.map-answered.ensures.cases c.engine.ensures.ends.ok c.engine.ensures.ends.taken c.engine.ensures.ends.err c.engine.ensures.ends.read c.engine.ensures.ends.memory c.flush.ensures.bytes)
