use Rattle.mv_certificate.proofs.Common.{◌≡◌, true, ReadsOn, are_ascending, edge_from}
use Rattle.mv_certificate.proofs.reading.read_edges.Given as goal

abbrev pub invariant-edges : goal.invariant-edges
invariant-edges l = record {
  reads : ReadsOn (edge_from l.m l.d) l.count l.counter l.initial.reader l.edges l.reader;
  ascend : are_ascending l.edges ≡ true;
}
