use Rattle.mv_edges.proofs.Common.{◌-◌, ◌∙◌, ◌≡◌, Some, ap, length, slice_get, subst, sym}
use Rattle.mv_ways.specs.Provenances.{ProvenanceGraph, a_reference}
use Rattle.mv_ways.proofs.ProvenanceGraph.Changed.{last_reference}
use Rattle.mv_ways.proofs.ProvenanceGraph.Kept.{provenance_below_at, whole_parts}
use Rattle.mv_ways.proofs.provenances.ProvenanceGraph.pop_reference.Goals as goal

pub returns-clause-below : goal.returns-clause-below
returns-clause-below c =
    let inside : ProvenanceGraph = record { sources = c.self.inside.sources.items; provenances = c.self.inside.provenances.items; references = c.self.inside.references.items } in
    let at : slice_get inside.references (length inside.references - 1) ≡ Some (a_reference c.args.n c.args.provenance) =
    subst (λ (g : ProvenanceGraph). slice_get g.references (length g.references - 1) ≡ Some (a_reference c.args.n c.args.provenance)) (sym c.self.view_is) c.requires in
    provenance_below_at (length inside.provenances) inside.references (length inside.references - 1) (a_reference c.args.n c.args.provenance) at (whole_parts inside c.self.invariant.0).below

pub returns-clause-popped : goal.returns-clause-popped
returns-clause-popped c =
    let inside : ProvenanceGraph = record { sources = c.self.inside.sources.items; provenances = c.self.inside.provenances.items; references = c.self.inside.references.items } in
    let at : slice_get inside.references (length inside.references - 1) ≡ Some (a_reference c.args.n c.args.provenance) =
    subst (λ (g : ProvenanceGraph). slice_get g.references (length g.references - 1) ≡ Some (a_reference c.args.n c.args.provenance)) (sym c.self.view_is) c.requires in
    sym c.self.view_is
    ∙ ap (λ rs. record { sources = inside.sources; provenances = inside.provenances; references = rs })
    (last_reference inside.references c.pop.new.self.items c.self.inside.references.len (a_reference c.args.n c.args.provenance) c.self.inside.references.ok.0 at c.pop.ensures.rest)
