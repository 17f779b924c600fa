use Rattle.mv_edges.proofs.Common.{◌∙◌, ◌≡◌, List, ap, extended, false, get_or, get_or_default, same_node, sym, true, Slot}
use Rattle.mv_ways.specs.declared.provenances.Reference.{Reference}
use Rattle.mv_ways.specs.Provenances.{all_origins, changed_origins, origins_at}
use Rattle.mv_ways.proofs.ProvenanceGraph.Extending.{extended_there, extended_elsewhere}
use Rattle.mv_ways.proofs.provenances.ProvenanceGraph.extend_at.Goals as goal

pub returns-in_ok-provenance : goal.returns-in_ok-provenance
returns-in_ok-provenance c =
    let g = c.args.self.now in
    let d : Reference = record { node = Slot 0; provenance = 0 } in
    let r : Reference = get_or g.references c.args.place d in
    let read = c.references.ensures.value in
    let same : same_node r.node c.args.n ≡ true =
    ap (λ (rs : List Reference). same_node (get_or rs c.args.place d).node c.args.n) (sym read) ∙ ap (λ m. same_node m c.args.n) (sym c.node.ensures) ∙ sym c.is_same.ensures ∙ c.if-is_same.true in
    let provenance : c.provenance.result ≡ r.provenance = c.provenance.ensures ∙ ap (λ (rs : List Reference). (get_or rs c.args.place d).provenance) read in
    extended_there c.args.position c.args.n g c.field.new.self c.put_reference.new.self c.args.place c.in_ok-provenance.provenance r c.references.ensures.below c.requires
    (get_or_default g.references c.args.place d r c.requires) same c.in_ok-provenance.ensures.more
    (c.in_ok-provenance.ensures.origins ∙ ap (λ k. changed_origins (extended c.args.position) (origins_at (all_origins g.provenances) k)) provenance) c.put_reference.ensures

pub returns-else-is_same : goal.returns-else-is_same
returns-else-is_same c =
    let g = c.args.self.now in
    let d : Reference = record { node = Slot 0; provenance = 0 } in
    let r : Reference = get_or g.references c.args.place d in
    let read = c.references.ensures.value in
    let other : same_node r.node c.args.n ≡ false =
    ap (λ (rs : List Reference). same_node (get_or rs c.args.place d).node c.args.n) (sym read) ∙ ap (λ m. same_node m c.args.n) (sym c.node.ensures) ∙ sym c.is_same.ensures ∙ c.if-is_same.false in
    extended_elsewhere c.args.position c.args.n g c.args.place r c.requires (get_or_default g.references c.args.place d r c.requires) other
