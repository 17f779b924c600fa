use Rattle.mv_edges.proofs.Common.{◌∙◌, ◌≡◌, ap, arith, length}
use Rattle.mv_edges.proofs.Lengths.{longest_more}
use Rattle.mv_edges.proofs.edges.longest_of.Goals as goal

pub loop-e-preserved : goal.loop-e-preserved
loop-e-preserved c =
    let e = c.e-item.result in
    let so_far = c.loop-e.invariant in
    let depth : c.depth.result ≡ length e.label.path = c.depth.ensures ∙ ap (λ x. length x.label.path) c.view.ensures in
    let most = c.larger-most.ensures in
    let more = longest_more c.args.items.now c.loop-e.e-index e c.loop-e-test.true c.e-item.is in
    omega (arith, so_far, depth, most, more)
