use Rattle.mv_bounds.proofs.Common.{ℕ, ◌==◌, ◌∙◌, Global, Vec, ap, arith, count_by, take_all}
use Rattle.mv_bounds.proofs.Defined.{counted_low, counted_hit, counted_miss}
use Rattle.mv_bounds.proofs.duplicates.counts.Goals.{then-at-n, else-at-n}
use Rattle.mv_bounds.proofs.duplicates.counts.Goals as goal

pub overflow_add-index_mut : goal.overflow_add-index_mut
overflow_add-index_mut c =
    let low = counted_low c.loop-x.counts.items c.args.items.now c.args.n c.loop-x.x-index c.from-at.result c.index_mut.result.now c.loop-x.invariant c.loop-x-test.true c.if-at-n.true c.index_mut.ensures.value in
    omega (arith, low)

pub loop-x-preserved : goal.loop-x-preserved
loop-x-preserved c =
    elim c.if-at-n.branch [
      | then-at-n w ↦
          counted_hit c.loop-x.counts.items c.args.items.now c.args.n c.loop-x.x-index c.from-at.result w.index_mut.result.now c.if-at-n.counts.items c.loop-x.invariant c.loop-x-test.true c.from-at.ensures w.if-at-n.true w.index_mut.ensures.value (ap (λ (v : Vec ℕ Global). v.items) w.counts-is)
      | else-at-n w ↦
          counted_miss c.loop-x.counts.items c.args.items.now c.args.n c.loop-x.x-index c.from-at.result c.if-at-n.counts.items c.loop-x.invariant c.loop-x-test.true c.from-at.ensures w.if-at-n.false (ap (λ (v : Vec ℕ Global). v.items) w.counts-is)
    ]

pub returns-clause-counts : goal.returns-clause-counts
returns-clause-counts c = λ k low.
    c.loop-x.invariant.each k low ∙ ap (count_by (λ (x : ℕ). x == k)) (take_all c.loop-x.x-index c.args.items.now c.loop-x-test.false)
