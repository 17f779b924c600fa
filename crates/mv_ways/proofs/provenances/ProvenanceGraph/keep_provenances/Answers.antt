use Rattle.mv_edges.proofs.Common.{◌≡◌, ◌≤◌, ap, arith, length, length-take-le, subst, sym, true}
use Rattle.mv_ways.specs.Provenances.{ProvenanceGraph, are_below}
use Rattle.mv_ways.proofs.ProvenanceGraph.Kept.{kept_whole}
use Rattle.mv_ways.proofs.provenances.ProvenanceGraph.keep_provenances.Goals as goal

pub invariant_of-self : goal.invariant_of-self
invariant_of-self c =
    let inside : ProvenanceGraph = record { sources = c.self.inside.sources.items; provenances = c.self.inside.provenances.items; references = c.self.inside.references.items } in
    let most : c.args.count ≤ length inside.provenances = subst (λ (g : ProvenanceGraph). c.args.count ≤ length g.provenances) (sym c.self.view_is) c.requires.most in
    let whole = ap length c.truncate.ensures.items in
    let long = length-take-le c.args.count inside.provenances most in
    let few = c.self.invariant.1 in (
      kept_whole c.args.count inside c.truncate.new.self.items c.truncate.ensures.items most (subst (λ (g : ProvenanceGraph). are_below c.args.count g.references ≡ true) (sym c.self.view_is) c.requires.below) c.self.invariant.0,
      omega (arith, whole, long, most, few),
    )
