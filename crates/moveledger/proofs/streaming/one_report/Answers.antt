use Rattle.moveledger.proofs.OneReport.{one_report_lem}
use Rattle.moveledger.proofs.streaming.one_report.Goals as goal

pub returns : goal.returns
returns c = one_report_lem c.modules_are_read_by_text.ensures
