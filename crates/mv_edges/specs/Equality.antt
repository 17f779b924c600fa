-- The tests of labels and edges decide equality.
-- It stands in specs/, since a trait's laws may cite nothing of their own crate but its specs/.
use Rattle.std.proofs.Common.{◌≡◌, Bool, ◌&&◌, bytes_eq, Decides, refl, sym, ap, ◌∙◌, true≢false, eqb-true, eq-eqb}
use Rattle.std.specs.Bool.{beq}
use Rattle.std.specs.Cmp.{IsEquivalence, equiv, booleans_Decides}
use Rattle.std.specs.Cmp.Lexicographic.{bytes_decides}
use Rattle.std.proofs.lemmas.Bool.Decides.{same_from_decides, Decides-like, Decides-and}
use Rattle.mv_move_types.specs.declared.borrow.Node.{Node}
use Rattle.mv_move_types.specs.declared.borrow.Node.TheVariants.{Slot, Own, Glob, Temp}
use Rattle.mv_edges.specs.Edges.{Label, Edge, same_node, same_label, same_edge}

equivalence : {X : Type 0} (E : X → X → Bool) → ((a b : X) → Decides (E a b) (a ≡ b)) → IsEquivalence E
equivalence {X} E d =
    equiv (record {
      symm = λ x y. same_from_decides {P = x ≡ y} (E x y) (E y x) (d x y) (Decides-like (E y x) (λ (e : y ≡ x). sym e) (λ (e : x ≡ y). sym e) (d y x));
      trans = λ x y z p q. (d x z).1 ((d x y).0 p ∙ (d y z).0 q);
    }) (λ x. (d x x).1 refl)

pub same_node_decides : (n m : Node) → Decides (same_node n m) (n ≡ m)
same_node_decides (Slot i) (Slot j) = (λ h. ap Slot (eqb-true i j h), λ e. eq-eqb i j cc)
same_node_decides (Own i) (Own j) = (λ h. ap Own (eqb-true i j h), λ e. eq-eqb i j cc)
same_node_decides (Glob i) (Glob j) = (λ h. ap Glob (eqb-true i j h), λ e. eq-eqb i j cc)
same_node_decides (Temp i) (Temp j) = (λ h. ap Temp (eqb-true i j h), λ e. eq-eqb i j cc)
same_node_decides (Slot i) (Own j) = (λ h. absurd (true≢false (sym h)), λ e. cc)
same_node_decides (Slot i) (Glob j) = (λ h. absurd (true≢false (sym h)), λ e. cc)
same_node_decides (Slot i) (Temp j) = (λ h. absurd (true≢false (sym h)), λ e. cc)
same_node_decides (Own i) (Slot j) = (λ h. absurd (true≢false (sym h)), λ e. cc)
same_node_decides (Own i) (Glob j) = (λ h. absurd (true≢false (sym h)), λ e. cc)
same_node_decides (Own i) (Temp j) = (λ h. absurd (true≢false (sym h)), λ e. cc)
same_node_decides (Glob i) (Slot j) = (λ h. absurd (true≢false (sym h)), λ e. cc)
same_node_decides (Glob i) (Own j) = (λ h. absurd (true≢false (sym h)), λ e. cc)
same_node_decides (Glob i) (Temp j) = (λ h. absurd (true≢false (sym h)), λ e. cc)
same_node_decides (Temp i) (Slot j) = (λ h. absurd (true≢false (sym h)), λ e. cc)
same_node_decides (Temp i) (Own j) = (λ h. absurd (true≢false (sym h)), λ e. cc)
same_node_decides (Temp i) (Glob j) = (λ h. absurd (true≢false (sym h)), λ e. cc)

pub same_label_decides : (a b : Label) → Decides (same_label a b) (a ≡ b)
same_label_decides a b =
    Decides-like (same_label a b) (λ (p : (a.path ≡ b.path) × (a.is_open ≡ b.is_open)). λ i. record { path = p.0 i; is_open = p.1 i })
    (λ (e : a ≡ b). (ap (λ (l : Label). l.path) e, ap (λ (l : Label). l.is_open) e))
    (Decides-and (bytes_eq a.path b.path) (beq a.is_open b.is_open) (bytes_decides a.path b.path) (booleans_Decides a.is_open b.is_open))

pub same_edge_decides : (a b : Edge) → Decides (same_edge a b) (a ≡ b)
same_edge_decides a b =
    Decides-like (same_edge a b)
    (λ (p : ((a.from ≡ b.from) × (a.label ≡ b.label)) × (a.to ≡ b.to)). λ i. record { from = p.0.0 i; label = p.0.1 i; to = p.1 i })
    (λ (e : a ≡ b). ((ap (λ (x : Edge). x.from) e, ap (λ (x : Edge). x.label) e), ap (λ (x : Edge). x.to) e))
    (Decides-and (same_node a.from b.from && same_label a.label b.label) (same_node a.to b.to)
    (Decides-and (same_node a.from b.from) (same_label a.label b.label) (same_node_decides a.from b.from) (same_label_decides a.label b.label))
    (same_node_decides a.to b.to))

pub same_label_equiv : IsEquivalence same_label
same_label_equiv = equivalence same_label same_label_decides

pub same_edge_equiv : IsEquivalence same_edge
same_edge_equiv = equivalence same_edge same_edge_decides
