use Rattle.mv_bounds.proofs.Common.{[], ℕ, ◌++◌, ◌∙◌, ◌∷◌, ◌≡◌, Global, Vec, ap, length, are_nodes, times}
use Rattle.mv_bounds.proofs.CountLemmas.{source_more, source_none, nodes_push}
use Rattle.mv_bounds.proofs.cycles.sources.Goals.{then-waiting-node-eq0+in_ok-push, else-waiting-node-eq0}
use Rattle.mv_bounds.proofs.cycles.sources.Goals as goal

pub loop-node-preserved : goal.loop-node-preserved
loop-node-preserved c =
    let waiting = c.args.waiting.now in
    let ready = c.loop-node.ready.items in
    let node = c.loop-node.node in
    elim c.if-waiting-node-eq0.branch [
      | then-waiting-node-eq0+in_ok-push w ↦
          let is : c.if-waiting-node-eq0.ready.items ≡ ready ++ node ∷ [] = ap (λ (v : Vec ℕ Global). v.items) w.ready-is ∙ w.in_ok-push.ensures.items in
          record {
            below = ap (are_nodes (length waiting)) is ∙ nodes_push (length waiting) ready node c.loop-node.invariant.below c.loop-node-test.true;
            ready = λ j. ap (times j) is ∙ source_more waiting ready node c.loop-node.invariant.ready w.if-waiting-node-eq0.true j;
          }
      | else-waiting-node-eq0 w ↦
          let is : c.if-waiting-node-eq0.ready.items ≡ ready = ap (λ (v : Vec ℕ Global). v.items) w.ready-is in
          record {
            below = ap (are_nodes (length waiting)) is ∙ c.loop-node.invariant.below;
            ready = λ j. ap (times j) is ∙ source_none waiting ready node c.loop-node.invariant.ready w.if-waiting-node-eq0.false j;
          }
    ]
