use Rattle.mv_edges.proofs.Common.{◌∙◌, ap, flat_map, map, take_all}
use Rattle.mv_ways.specs.Provenances.{origin_edges}
use Rattle.mv_ways.proofs.ProvenanceGraph.Stating.{changed_edge, origins_made}
use Rattle.mv_ways.proofs.provenances.ProvenanceGraph.origins.Goals as goal

pub loop-e-preserved : goal.loop-e-preserved
loop-e-preserved c =
    let before = c.loop-e.invariant in
    let new = c.in_ok-push_origin.ensures in
    record {
      known = new.known;
      provenances = new.kept.0 ∙ before.provenances;
      references = new.kept.1 ∙ before.references;
      edges = new.edges ∙ before.edges;
      origins = λ to.
          origins_made c.args.change to c.args.edges.now (flat_map (origin_edges c.loop-e.self.sources to) c.loop-e.origins.items) (flat_map (origin_edges c.push_origin.new.self.sources to) c.push_origin.new.origins.items)
          c.loop-e.e-index c.e-item.result c.e-item.result c.loop-e-test.true c.e-item.is (before.origins to) (new.origins to);
    }

pub returns-clause-origins : goal.returns-clause-origins
returns-clause-origins c = λ to. c.loop-e.invariant.origins to ∙ ap (map (changed_edge c.args.change to)) (take_all c.loop-e.e-index c.args.edges.now c.loop-e-test.false)
