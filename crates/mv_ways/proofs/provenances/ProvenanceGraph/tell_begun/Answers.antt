use Rattle.std.proofs.Common.{◌≡◌, ◌++◌, ◌∷◌, [], append-nil, sym, subst, ap, ◌∙◌}
use Rattle.mv_edges.specs.Edges.{here}
use Rattle.mv_ways.specs.Behind.{a_tail, begun_edges, tail_edges}
use Rattle.mv_ways.specs.Told.{IsTold}
use Rattle.mv_ways.specs.Provenances.{an_origin}
use Rattle.mv_ways.proofs.provenances.ProvenanceGraph.tell_begun.Goals as goal

pub returns-in-Lent : goal.returns-in-Lent
returns-in-Lent g c =
    let sources = c.args.self.now.sources in
    let t = a_tail (record { path = c.args.path.now; is_open = c.args.is_open }) in
    let own = tail_edges sources c.args.to (an_origin c.in-Lent.source here) t in
    let same : own ≡ begun_edges sources c.args.to c.args.provenance.now (t ∷ []) = sym (append-nil (own ++ []) ∙ append-nil own) ∙ ap (λ w. begun_edges sources c.args.to w (t ∷ [])) (sym c.in-Lent.is) in
    subst (λ es. IsTold g.S.Sink.after c.args.sink.now es c.tell_origin-in-Lent.result c.tell_origin-in-Lent.new.sink) same (rw c.lent.ensures at c.tell_origin-in-Lent.ensures)
