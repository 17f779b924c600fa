use Rattle.mv_bit_sets.proofs.Bits.{AreWithin}
use Rattle.mv_bit_sets.proofs.BitSet.outside.Given as goal

abbrev pub invariant-loop-i : goal.invariant-loop-i
invariant-loop-i l = AreWithin l.from l.self l.other l.i
