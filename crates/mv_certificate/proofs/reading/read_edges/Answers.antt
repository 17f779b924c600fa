use Rattle.mv_certificate.proofs.Common.{[], ◌++◌, ◌+◌, ◌∷◌, ◌≡◌, Err, None, ap, arith, false, inl, inr, subst, sym, common_steps, ReadsOn, ReadsOn-next, are_ascending, edge_from}
use Rattle.mv_certificate.proofs.Loops.{edges-fail, edges-break, edges-end}
use Rattle.mv_certificate.proofs.reading.read_edges.Goals as goal

pub returns-in_err-edge-clause-refused : goal.returns-in_err-edge-clause-refused
returns-in_err-edge-clause-refused c is =
    let none : edge_from c.args.m.now c.args.d.now c.edges.reader ≡ None = elim c.in_err-edge.ensures.errors [ inl p ↦ c.in_err-edge.ensures.refused (ap Err p) | inr q ↦ absurd (grind (arith, common_steps, q, is)) ] in
    edges-break c.args.m.now c.args.d.now c.in_ok-count.count c.edges.counter c.args.reader.now c.number.new.self c.edges.edges c.edges.reader
    c.in_ok-count.ensures.reads (omega arith) none c.edges.invariant.reads

pub returns-in_err-add_last-clause-refused : goal.returns-in_err-add_last-clause-refused
returns-in_err-add_last-clause-refused c is =
    let out : are_ascending (c.edges.edges ++ c.in_ok-edge.edge ∷ []) ≡ false = elim c.in_err-add_last.ensures.errors [ inl p ↦ c.in_err-add_last.ensures.refused (ap Err p) | inr q ↦ absurd (grind (arith, common_steps, q, is)) ] in
    edges-fail c.args.m.now c.args.d.now c.in_ok-count.count (c.edges.counter + 1) c.args.reader.now c.number.new.self (c.edges.edges ++ c.in_ok-edge.edge ∷ []) c.read_edge.new.reader
    c.in_ok-count.ensures.reads
    (ReadsOn-next (edge_from c.args.m.now c.args.d.now) c.in_ok-count.count c.edges.counter c.number.new.self c.edges.edges c.edges.reader c.read_edge.new.reader c.in_ok-edge.edge
    (omega arith) c.in_ok-edge.ensures.ok c.edges.invariant.reads) out

pub edges-preserved : goal.edges-preserved
edges-preserved c = record {
  reads = subst (λ z. ReadsOn (edge_from c.args.m.now c.args.d.now) c.in_ok-count.count (c.edges.counter + 1) c.number.new.self z c.read_edge.new.reader) (sym c.in_ok-add_last.ensures.edges)
      (ReadsOn-next (edge_from c.args.m.now c.args.d.now) c.in_ok-count.count c.edges.counter c.number.new.self c.edges.edges c.edges.reader c.read_edge.new.reader c.in_ok-edge.edge
      (omega arith) c.in_ok-edge.ensures.ok c.edges.invariant.reads);
  ascend = c.in_ok-add_last.ensures.ascend;
}

pub returns-clause-ok : goal.returns-clause-ok
returns-clause-ok c =
    edges-end c.args.m.now c.args.d.now c.in_ok-count.count c.edges.counter c.args.reader.now c.number.new.self c.edges.edges c.edges.reader
    c.in_ok-count.ensures.reads (omega arith) c.edges.invariant.reads c.edges.invariant.ascend
