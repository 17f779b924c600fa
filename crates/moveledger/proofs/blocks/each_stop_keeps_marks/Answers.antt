use Rattle.moveledger.proofs.BlockLaws.{stop-marks}
use Rattle.moveledger.proofs.blocks.each_stop_keeps_marks.Goals as goal

pub returns : goal.returns
returns c = stop-marks
