use Rattle.mv_bounds.proofs.Common.{ℕ, ◌+◌, ◌∙◌, ◌≤◌, List, ap, arith, get_or, length, refl, take, length-take-le, take_all, times}
use Rattle.mv_bound_rules.proofs.TimesLemmas.{times_length}
use Rattle.mv_bounds.proofs.CountLemmas.{count_hit, count_miss}
use Rattle.mv_bounds.proofs.cycles.count.Goals.{then-target-counts, else-target-counts}
use Rattle.mv_bounds.proofs.cycles.count.Goals as goal

pub overflow_add-counts : goal.overflow_add-counts
overflow_add-counts c =
    let x = get_or c.args.targets.now c.loop-target.target-index 0 in
    let held = c.loop-target.invariant x c.if-target-counts.true in
    let room = c.requires x (omega arith) in
    let most = times_length x (take c.loop-target.target-index c.args.targets.now) in
    let long : length (take c.loop-target.target-index c.args.targets.now) ≤ c.loop-target.target-index = omega (arith, length-take-le c.loop-target.target-index c.args.targets.now (omega arith)) in
    omega (arith, held, room, most, long)

pub loop-target-preserved : goal.loop-target-preserved
loop-target-preserved c = λ j l.
    let x = get_or c.args.targets.now c.loop-target.target-index 0 in
    elim c.if-target-counts.branch [
      | then-target-counts w ↦ count_hit c.args.counts.now c.loop-target.counts c.if-target-counts.counts c.args.targets.now c.loop-target.target-index x c.loop-target.invariant c.loop-target-test.true refl w.if-target-counts.true w.counts-is j (omega arith)
      | else-target-counts w ↦ count_miss c.args.counts.now c.loop-target.counts c.if-target-counts.counts c.args.targets.now c.loop-target.target-index x c.loop-target.invariant c.loop-target-test.true refl (omega arith) w.counts-is j (omega arith)
    ]

pub returns : goal.returns
returns c = λ j low.
    c.loop-target.invariant j (omega arith)
    ∙ ap (λ (ts : List ℕ). get_or c.args.counts.now j 0 + times j ts) (take_all c.loop-target.target-index c.args.targets.now c.loop-target-test.false)
