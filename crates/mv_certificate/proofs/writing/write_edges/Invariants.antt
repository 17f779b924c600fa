use Rattle.mv_certificate.proofs.Common.{◌++◌, ◌≡◌, flat_map, take, edge_text}
use Rattle.mv_certificate.proofs.writing.write_edges.Given as goal

abbrev pub invariant-loop-edge : goal.invariant-loop-edge
invariant-loop-edge l = l.out.items ≡ l.initial.out.items ++ flat_map edge_text (take l.edge-index l.edges)
