use Rattle.std.proofs.Common.{◌+◌, ◌/◌, ◌<◌, ◌≤◌, arith, get_or, length, max, refl}
use Rattle.mv_bit_sets.proofs.Bits.{has-all, has-more}
use Rattle.mv_bit_sets.proofs.BitSet.of.Goals as goal

pub loop-number-preserved : goal.loop-number-preserved
loop-number-preserved c = (
  has-more c.loop-number.set c.insert.new.self c.args.numbers.now c.loop-number.number-index _ c.loop-number.invariant.0 c.loop-number-test.true refl c.in_ok-insert.ensures.members,
  λ words low.
      let number : get_or c.args.numbers.now c.loop-number.number-index 0 / 64 < words = low c.loop-number.number-index 0 c.loop-number-test.true in
      let before = c.loop-number.invariant.1 words low in
      let after : length c.insert.new.self ≤ max (length c.loop-number.set) (get_or c.args.numbers.now c.loop-number.number-index 0 / 64 + 1) = c.in_ok-insert.ensures.short in
      omega (arith, number, before, after),
)

pub returns-clause-members : goal.returns-clause-members
returns-clause-members c = has-all c.loop-number.set c.args.numbers.now c.loop-number.number-index c.loop-number.invariant.0 c.loop-number-test.false
