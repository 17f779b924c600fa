use Rattle.std.proofs.Common.{◌+◌, ◌-◌, ◌^◌, arith}
use Rattle.mv_frames.specs.Counters.{counts_in}
use Rattle.mv_tests.proofs.Below.{below-clear, below-weaker, below-counted}
use Rattle.mv_tests.proofs.tests.words.counted.Goals as goal

pub loop-value-init : goal.loop-value-init
loop-value-init c = below-clear c.args.counters.now c.requires.clear

pub count-requires : goal.count-requires
count-requires c =
    below-weaker (c.loop-value.value-index + 1) (2 ^ 64 - 1) (counts_in c.loop-value.counters) (omega (arith, c.requires.few, c.loop-value-test.true)) c.loop-value.invariant

pub loop-value-preserved : goal.loop-value-preserved
loop-value-preserved c =
    below-counted (c.loop-value.value-index + 1) _ _ (counts_in c.loop-value.counters) (counts_in c.count.new.self) c.in_ok-count.ensures.counted c.loop-value.invariant
