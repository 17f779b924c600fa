use Rattle.std.proofs.Common.{arith, w64}
use Rattle.std.specs.Int.{bit_not}
use Rattle.std.proofs.lemmas.Nat.{and_le_l}
use Rattle.mv_bit_sets.proofs.Bits.{first-left, bits-within}
use Rattle.mv_bit_sets.proofs.first_left.Goals as goal

pub returns-then-left-eq0 : goal.returns-then-left-eq0
returns-then-left-eq0 c = bits-within c.args.word c.args.others c.ranges.others.fits c.if-left-eq0.true

pub returns : goal.returns
returns c = first-left c.args.word c.args.others c.ranges.word.fits c.ranges.others.fits c.if-left-eq0.false (let least = and_le_l c.args.word (bit_not w64 c.args.others) in omega (arith, least, c.ranges.word.fits))
