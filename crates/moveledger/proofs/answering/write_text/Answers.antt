use Rattle.std.proofs.Common.{arith}
use Rattle.std.proofs.lemmas.Grind.{common_steps}
use Rattle.moveledger.proofs.Taken.{Appends-more}
use Rattle.moveledger.proofs.answering.write_text.Goals as goal

pub loop-written-preserved : goal.loop-written-preserved
loop-written-preserved g c = record {
  within = grind (arith, common_steps);
  given = Appends-more _ _ _ c.args.text.now c.loop-written.written c.in-Ok.n c.loop-written.invariant.given c.in-Ok.ensures.bytes;
}
