use Rattle.moveledger.proofs.BlockLaws.{block-back}
use Rattle.moveledger.proofs.blocks.each_block_comes_back.Goals as goal

pub returns : goal.returns
returns c = block-back
