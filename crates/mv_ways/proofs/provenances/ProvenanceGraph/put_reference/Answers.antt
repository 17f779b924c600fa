use Rattle.mv_edges.proofs.Common.{◌<◌, length, subst, sym}
use Rattle.mv_ways.specs.Provenances.{ProvenanceGraph}
use Rattle.mv_ways.proofs.ProvenanceGraph.Kept.{put_whole}
use Rattle.mv_ways.proofs.provenances.ProvenanceGraph.put_reference.Goals as goal

pub invariant_of-self : goal.invariant_of-self
invariant_of-self c =
    let inside : ProvenanceGraph = record { sources = c.self.inside.sources.items; provenances = c.self.inside.provenances.items; references = c.self.inside.references.items } in
    (put_whole inside c.args.place c.args.provenance c.args.node (subst (λ (g : ProvenanceGraph). c.args.provenance < length g.provenances) (sym c.self.view_is) c.requires.below) c.self.invariant.0, c.self.invariant.1)
