use Rattle.mv_edges.proofs.Common.{◌<◌, ◌∙◌, ap, arith, length}
use Rattle.mv_ways.specs.Graph.{Reborrow}
use Rattle.mv_ways.specs.Provenances.{edges_of}
use Rattle.mv_ways.proofs.ProvenanceGraph.Stating.{stated_all, stated_more}
use Rattle.mv_ways.proofs.provenances.ProvenanceGraph.state_each.Goals as goal

pub loop-place-preserved : goal.loop-place-preserved
loop-place-preserved c =
    let inside : c.loop-place.place < length c.args.reborrows.now = omega arith in
    let within : c.loop-place.place < length c.args.given.now = omega arith in
    stated_more c.args.reborrows.now c.args.given.now c.loop-place.place c.index-reborrows-place.result c.index-reborrows-place.result c.index-given-place.result c.index-given-place.result (edges_of c.args.self.now)
    (edges_of c.loop-place.self) (edges_of c.state.new.self) c.node.result inside within (c.node.ensures ∙ ap (λ (h : Reborrow). h.node) c.index-reborrows-place.is) c.index-given-place.is
    c.loop-place.invariant c.in_ok-state.ensures

pub returns : goal.returns
returns c =
    stated_all c.args.reborrows.now c.args.given.now c.loop-place.place (edges_of c.args.self.now) (edges_of c.loop-place.self) (omega arith) (omega arith) c.loop-place.invariant
