use Rattle.mv_edges.proofs.Common.{[], ◌∙◌, ap, flat_map, fold, length, take_all}
use Rattle.mv_ways.specs.Provenances.{added_once, provenances_at}
use Rattle.mv_ways.proofs.ProvenanceGraph.Tying.{once_below}
use Rattle.mv_ways.proofs.provenances.ProvenanceGraph.provenances_of.Goals as goal

pub returns-clause-below : goal.returns-clause-below
returns-clause-below c =
    let rs = c.args.self.now.references in
    once_below (length c.args.self.now.provenances) c.args.nodes.now rs c.loop-n.provenances.items c.references-references.ensures.below
    (c.loop-n.invariant ∙ ap (λ ns. fold added_once [] (flat_map (λ n. provenances_at n rs) ns)) (take_all c.loop-n.n-index c.args.nodes.now c.loop-n-test.false))
