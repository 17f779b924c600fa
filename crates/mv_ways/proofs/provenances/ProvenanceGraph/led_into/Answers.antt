use Rattle.mv_edges.proofs.Common.{◌++◌, ◌∙◌, ap, get_or, refl, sorted, Slot}
use Rattle.mv_ways.specs.Listing.{listed}
use Rattle.mv_ways.specs.Provenances.{edges_of}
use Rattle.mv_ways.proofs.ProvenanceGraph.Stating.{into_one, nodes_more}
use Rattle.mv_ways.proofs.provenances.ProvenanceGraph.led_into.Goals as goal

pub loop-n-preserved : goal.loop-n-preserved
loop-n-preserved c = λ h.
    let it = c.args.self.now in
    let told = c.tell_each.ensures h in
    let n = get_or c.args.nodes.now c.loop-n.n-index (Slot 0) in
    nodes_more (edges_of it) (listed c.loop-n.listing) (listed c.tell_each.new.sink) c.args.nodes.now c.loop-n.n-index (Slot 0) n
    c.loop-n-test.true refl (c.loop-n.invariant told.0) (told.1 ∙ ap (λ es. sorted (listed c.loop-n.listing ++ es)) (into_one it n))
