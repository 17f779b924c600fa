use Rattle.mv_edges.proofs.Common.{◌∙◌, ap, arith, sym, list_any, same_edge}
use Rattle.mv_edges.proofs.Searches.{reached_same, reached_prefix, reached_last}
use Rattle.mv_edges.proofs.edges.Edges.reach.Goals as goal

pub returns-then-has-clause-value : goal.returns-then-has-clause-value
returns-then-has-clause-value c = sym (reached_same c.args.self.now c.args.e.now (sym c.has.ensures.value ∙ c.if-has.true))

pub returns-then-has-2-clause-value : goal.returns-then-has-2-clause-value
returns-then-has-2-clause-value c =
    sym (reached_prefix c.args.self.now c.args.e.now c.loop-count.count
    (ap (λ x. list_any (same_edge x) c.args.self.now) (sym c.opened_at.ensures) ∙ sym c.has-in-loop-count.ensures.value ∙ c.if-has-2.true))

pub returns-clause-value : goal.returns-clause-value
returns-clause-value c =
    let es = c.args.self.now in
    let e = c.args.e.now in
    let end = c.loop-count-test.false in
    let most = c.smaller-most.ensures in
    let depth = c.depth.ensures in
    let longest = c.requires in
    reached_last es e c.smaller-most.result c.has-2.result (sym c.has.ensures.value ∙ c.if-has.false) (λ k h. c.loop-count.invariant.none k (omega (arith, h, end))) (omega (arith, most, depth, longest))
    (c.has-2.ensures.value ∙ ap (λ x. list_any (same_edge x) es) c.opened_at-last.ensures)
