use Rattle.mv_edges.proofs.Common.{◌∙◌, ap}
use Rattle.mv_ways.specs.declared.provenances.Provenance.TheVariants.{Field}
use Rattle.mv_ways.specs.Provenances.{all_origins, origins_at}
use Rattle.mv_ways.proofs.ProvenanceGraph.Kept.{origins_at-pushed, more_provenances}
use Rattle.mv_ways.proofs.provenances.ProvenanceGraph.field.Goals as goal

pub returns-clause-more : goal.returns-clause-more
returns-clause-more c = more_provenances (Field c.args.over c.args.position) c.args.self.now c.push_provenance.new.self c.in_ok-provenance.ensures.pushed

pub returns-clause-origins : goal.returns-clause-origins
returns-clause-origins c =
    ap (origins_at (all_origins c.push_provenance.new.self.provenances)) c.in_ok-provenance.ensures.place
    ∙ origins_at-pushed (Field c.args.over c.args.position) c.args.self.now c.push_provenance.new.self c.in_ok-provenance.ensures.pushed
