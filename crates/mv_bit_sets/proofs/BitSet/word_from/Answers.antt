use Rattle.mv_bit_sets.proofs.Bits.{part-bit}
use Rattle.mv_bit_sets.proofs.BitSet.word_from.Goals as goal

pub returns-then-i-from : goal.returns-then-i-from
returns-then-i-from c = λ bit low. part-bit c.args.self.now c.args.from c.args.i c.word-word.result bit c.word-word.ensures c.if-i-from.true low
