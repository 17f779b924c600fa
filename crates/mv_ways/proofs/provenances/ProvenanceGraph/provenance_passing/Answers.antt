use Rattle.mv_edges.proofs.Common.{◌∙◌, ap, get_or}
use Rattle.mv_ways.specs.Provenances.{all_origins}
use Rattle.mv_ways.specs.declared.provenances.Provenance.TheVariants.{Lent}
use Rattle.mv_ways.specs.declared.provenances.questions.Passing.TheVariants.{Never}
use Rattle.mv_ways.proofs.ProvenanceGraph.Passes.{says_copied, says_of_field}
use Rattle.mv_ways.proofs.provenances.ProvenanceGraph.provenance_passing.Goals as goal

pub returns-in-Some : goal.returns-in-Some
returns-in-Some g c =
    says_copied c.args.self.now.sources (g.P.NodeSet.test c.args.from.now) c.args.position (all_origins c.args.self.now.provenances) c.args.provenance.now c.in-Lent.source c.in-Some.over c.args.place
    (get_or c.args.noted.now c.in-Some.over Never) c.source_passing-own.result c.larger.result (c.in-Lent.is ∙ ap (Lent c.in-Lent.source) c.in-Some.is)
    (c.requires.noted c.in-Some.over Never) c.requires.below c.source_passing-own.ensures c.larger.ensures

pub returns-in-Field : goal.returns-in-Field
returns-in-Field g c =
    says_of_field c.args.self.now.sources (g.P.NodeSet.test c.args.from.now) c.args.position (all_origins c.args.self.now.provenances) c.args.provenance.now c.in-Field.over c.in-Field.field c.args.place
    (get_or c.args.noted.now c.in-Field.over Never) c.extended.result c.in-Field.is (c.requires.noted c.in-Field.over Never) c.requires.below c.extended.ensures
