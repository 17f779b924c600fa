-- Edges and lists of edges by a relation of labels: its laws, which the order of edges and their likeness share.
use Rattle.mv_edges.proofs.Common.{[], ◌&&◌, ◌∙◌, ◌∷◌, ◌≡◌, Bool, Contains, List, inl, inr, refl, subst, sym, true, true≢false, and_from, and_parts, or_cases, list_any_at, list_any, Edge}
use Rattle.mv_edges.proofs.Common.{Label, same_node, same_node_decides, edge_related, edges_related}
use Rattle.mv_edges.proofs.Insertion.{contains_here, contains_there, all_contains, all_from_contains}

-- an edge of a list that passes a test
pub record Passing (p : Edge → Bool) (es : List Edge) : Type 0 where
  pub edge : Edge
  pub there : Contains es edge
  pub passes : p edge ≡ true

pub passing : (p : Edge → Bool) (es : List Edge) → list_any p es ≡ true → Passing p es
passing p [] h = absurd (true≢false (sym h))
passing p (e ∷ es) h =
    elim (or_cases (p e) (list_any p es) h) [
      | inl g ↦ record { edge = e; there = contains_here e es; passes = g }
      | inr g ↦ let rest = passing p es g in record { edge = rest.edge; there = contains_there e es rest.edge rest.there; passes = rest.passes }
    ]

pub list_any_from : (p : Edge → Bool) (es : List Edge) (e : Edge) → Contains es e → p e ≡ true → list_any p es ≡ true
list_any_from p es e c h = list_any_at p es c.0 e c.1 (subst (λ x. p x ≡ true) (sym c.2) h)

-- the nodes are the same, and the labels related
pub record AreRelated (le : Label → Label → Bool) (a b : Edge) : Type 0 where
  pub from : a.from ≡ b.from
  pub to : a.to ≡ b.to
  pub label : le a.label b.label ≡ true

module _ (le : Label → Label → Bool) where
  pub related_parts : (a b : Edge) → edge_related le a b ≡ true → AreRelated le a b
  related_parts a b h =
      let parts = and_parts (same_node a.from b.from && same_node a.to b.to) (le a.label b.label) h in
      let nodes = and_parts (same_node a.from b.from) (same_node a.to b.to) parts.0 in
      record { from = (same_node_decides a.from b.from).0 nodes.0; to = (same_node_decides a.to b.to).0 nodes.1; label = parts.1 }

  pub related_from : (a b : Edge) → a.from ≡ b.from → a.to ≡ b.to → le a.label b.label ≡ true → edge_related le a b ≡ true
  related_from a b from to label =
      and_from (same_node a.from b.from && same_node a.to b.to) (le a.label b.label)
      (and_from (same_node a.from b.from) (same_node a.to b.to) ((same_node_decides a.from b.from).1 from) ((same_node_decides a.to b.to).1 to)) label

  -- each edge of the one list is related to one of the other
  pub partner : (es fs : List Edge) → edges_related le es fs ≡ true → (e : Edge) → Contains es e → Passing (edge_related le e) fs
  partner es fs h e c = passing (edge_related le e) fs (all_contains (λ a. list_any (edge_related le a) fs) es e h c)

  pub edges_related_from : (es fs : List Edge) → ((e : Edge) → Contains es e → Passing (edge_related le e) fs) → edges_related le es fs ≡ true
  edges_related_from es fs f =
      all_from_contains (λ a. list_any (edge_related le a) fs) es (λ e c. let p = f e c in list_any_from (edge_related le e) fs p.edge p.there p.passes)

  -- a list is related to one that has its edges, where each label is related to itself
  pub related_from_contains : ((l : Label) → le l l ≡ true) → (es fs : List Edge) → ((e : Edge) → Contains es e → Contains fs e) → edges_related le es fs ≡ true
  related_from_contains itself es fs f =
      edges_related_from es fs (λ e c. record { edge = e; there = f e c; passes = related_from e e refl refl (itself e.label) })

-- where two relations of labels follow on each other, those of edges do
pub related-transitive : (p q r : Label → Label → Bool) → ((a b c : Label) → p a b ≡ true → q b c ≡ true → r a c ≡ true)
    → (es fs gs : List Edge) → edges_related p es fs ≡ true → edges_related q fs gs ≡ true → edges_related r es gs ≡ true
related-transitive p q r f es fs gs h g =
    edges_related_from r es gs
    (λ e c.
    let x = partner p es fs h e c in
    let y = partner q fs gs g x.edge x.there in
    let one = related_parts p e x.edge x.passes in
    let two = related_parts q x.edge y.edge y.passes in
    record {
      edge = y.edge;
      there = y.there;
      passes = related_from r e y.edge (one.from ∙ two.from) (one.to ∙ two.to) (f e.label x.edge.label y.edge.label one.label two.label);
    })
