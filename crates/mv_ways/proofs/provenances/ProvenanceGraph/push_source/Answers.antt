use Rattle.mv_edges.proofs.Common.{[], ◌++◌, ◌∙◌, ◌∷◌, Some, ap}
use Rattle.mv_ways.specs.Provenances.{ProvenanceGraph, edges_of}
use Rattle.mv_ways.proofs.ProvenanceGraph.Kept.{edges_of-more, more_sources, whole_parts, with_source_whole}
use Rattle.mv_ways.proofs.provenances.ProvenanceGraph.push_source.Goals as goal

pub invariant_of-self-2 : goal.invariant_of-self-2
invariant_of-self-2 c =
    let inside : ProvenanceGraph = record { sources = c.self.inside.sources.items; provenances = c.self.inside.provenances.items; references = c.self.inside.references.items } in
    (with_source_whole (Some c.args.node) inside c.push.new.self.items c.in_ok-push.ensures.items c.self.invariant.0, c.self.invariant.1)

pub returns-clause-edges : goal.returns-clause-edges
returns-clause-edges c =
    let inside : ProvenanceGraph = record { sources = c.self.inside.sources.items; provenances = c.self.inside.provenances.items; references = c.self.inside.references.items } in
    ap (λ ss. edges_of (record { sources = ss; provenances = inside.provenances; references = inside.references })) c.in_ok-push.ensures.items
    ∙ edges_of-more inside (inside.sources ++ Some c.args.node ∷ []) (whole_parts inside c.self.invariant.0).known (more_sources inside.sources (Some c.args.node))
    ∙ ap edges_of c.self.view_is
