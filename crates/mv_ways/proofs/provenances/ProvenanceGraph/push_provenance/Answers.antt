use Rattle.mv_edges.proofs.Common.{[], ◌+◌, ◌∙◌, ◌∷◌, ◌≡◌, ap, arith, length, length-append, refl, subst, sym, true}
use Rattle.mv_ways.specs.Provenances.{ProvenanceGraph, edges_of, goes_below, is_known, with_provenance}
use Rattle.mv_ways.proofs.ProvenanceGraph.Kept.{edges_of-more_provenances, more_provenances, whole_parts, with_provenance_whole}
use Rattle.mv_ways.proofs.provenances.ProvenanceGraph.push_provenance.Goals as goal

pub invariant_of-self-2 : goal.invariant_of-self-2
invariant_of-self-2 c =
    let inside : ProvenanceGraph = record { sources = c.self.inside.sources.items; provenances = c.self.inside.provenances.items; references = c.self.inside.references.items } in
    let size : length c.push.new.self.items ≡ length c.self.inside.provenances.items + 1 = ap length c.in_ok-push.ensures.items ∙ length-append c.self.inside.provenances.items (c.args.provenance ∷ []) in (
      with_provenance_whole c.args.provenance inside c.push.new.self.items c.in_ok-push.ensures.items
          (subst (λ (g : ProvenanceGraph). goes_below (length g.provenances) c.args.provenance ≡ true) (sym c.self.view_is) c.requires.below)
          (subst (λ (g : ProvenanceGraph). is_known (length g.sources) c.args.provenance ≡ true) (sym c.self.view_is) c.requires.known) c.self.invariant.0,
      omega (arith, size, c.len-place.ensures, c.if-place-ge-MOST_PROVENANCES.false),
    )

pub returns-clause-edges : goal.returns-clause-edges
returns-clause-edges c =
    let inside : ProvenanceGraph = record { sources = c.self.inside.sources.items; provenances = c.self.inside.provenances.items; references = c.self.inside.references.items } in
    ap (λ ws. edges_of (record { sources = inside.sources; provenances = ws; references = inside.references })) c.in_ok-push.ensures.items
    ∙ edges_of-more_provenances inside (with_provenance c.args.provenance inside) (whole_parts inside c.self.invariant.0).below (more_provenances c.args.provenance inside (with_provenance c.args.provenance inside) refl)
    ∙ ap edges_of c.self.view_is
