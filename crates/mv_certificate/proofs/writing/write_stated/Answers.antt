use Rattle.mv_certificate.proofs.Common.{stated_text}
use Rattle.mv_certificate.proofs.Lists.{text-more}
use Rattle.mv_certificate.proofs.writing.write_stated.Goals as goal

pub loop-block-preserved : goal.loop-block-preserved
loop-block-preserved c =
    text-more stated_text c.args.stated.now c.loop-block.block-index c.block-item.result c.args.out.now.items c.loop-block.out.items c.write_block.new.out.items
    c.loop-block-test.true c.block-item.is c.loop-block.invariant c.in_ok-write_block.ensures
