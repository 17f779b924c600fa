use Rattle.std.proofs.Common.{◌+◌}
use Rattle.mv_frames.specs.Counters.{AreBelow, counts_in}
use Rattle.mv_tests.proofs.tests.words.counted.Given as goal

-- each count is at most the number of values so far
abbrev pub invariant-loop-value : goal.invariant-loop-value
invariant-loop-value l = AreBelow (l.value-index + 1) (counts_in l.counters)
