use Rattle.mv_certificate.proofs.Common.{◌++◌, ◌≡◌, List, append-nil, subst, sym, counted, Edge, edge_text}
use Rattle.mv_certificate.proofs.Lists.{text-more, counted-end}
use Rattle.mv_certificate.proofs.writing.write_edges.Goals as goal

pub loop-edge-init : goal.loop-edge-init
loop-edge-init c = sym (append-nil c.write.new.out.items)

pub loop-edge-preserved : goal.loop-edge-preserved
loop-edge-preserved c =
    text-more edge_text c.as_slice-edges.result.now c.loop-edge.edge-index c.edge-item.result c.write.new.out.items c.loop-edge.out.items c.write_edge.new.out.items
    c.loop-edge-test.true c.edge-item.is c.loop-edge.invariant c.in_ok-write_edge.ensures

pub returns : goal.returns
returns c =
    subst (λ (es : List Edge). c.loop-edge.out.items ≡ c.args.out.now.items ++ counted edge_text es) c.as_slice-edges.ensures.value
    (counted-end edge_text c.as_slice-edges.result.now c.loop-edge.edge-index c.args.out.now.items c.write.new.out.items c.loop-edge.out.items
    c.loop-edge-test.false c.in_ok-write.ensures.written c.loop-edge.invariant)
