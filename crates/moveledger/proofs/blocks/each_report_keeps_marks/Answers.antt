use Rattle.moveledger.proofs.BlockLaws.{report-marks}
use Rattle.moveledger.proofs.blocks.each_report_keeps_marks.Goals as goal

pub returns : goal.returns
returns c = report-marks
