use Rattle.mv_edges.proofs.Common.{◌++◌, ◌∙◌, ◌∷◌, ◌≡◌, [], an_edge, ap, changed, flat_map, length, lt-ltb}
use Rattle.mv_ways.specs.Provenances.{an_origin, origin_edges}
use Rattle.mv_ways.proofs.ProvenanceGraph.Stating.{origins_known_more, origins_pushed}
use Rattle.mv_ways.proofs.provenances.ProvenanceGraph.push_origin.Goals as goal

pub returns-clause-known : goal.returns-clause-known
returns-clause-known c =
    origins_known_more (length c.args.self.now.sources) (length c.source.new.self.sources) c.args.origins.now.items c.push.new.self.items (an_origin c.in_ok-source.source c.in_ok-label.label)
    c.in_ok-source.ensures.more.more c.requires (lt-ltb c.in_ok-source.source (length c.source.new.self.sources) c.in_ok-source.ensures.known) c.in_ok-push.ensures.items

pub returns-clause-origins : goal.returns-clause-origins
returns-clause-origins c = λ to.
    let label : c.in_ok-label.label ≡ changed c.args.change c.args.e.now.label = c.in_ok-label.ensures ∙ ap (changed c.args.change) c.label.ensures in
    origins_pushed c.args.self.now.sources c.source.new.self.sources c.args.origins.now.items c.push.new.self.items c.in_ok-source.source c.in_ok-label.label c.from.result to
    c.in_ok-source.ensures.more c.requires c.in_ok-source.ensures.there c.in_ok-push.ensures.items
    ∙ (λ i. flat_map (origin_edges c.args.self.now.sources to) c.args.origins.now.items ++ an_edge (c.from.ensures i) (label i) to ∷ [])
