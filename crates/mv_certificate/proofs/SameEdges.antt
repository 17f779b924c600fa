-- The rules for borrows depend on which edges there are, and not on their order.
use Rattle.mv_certificate.proofs.Common.{◌≡◌, Bool, Contains, List, None, Option, Some, ap, refl, subst, sym, true, none-some, same_Some, Instruction, Edge, Label, edges_leq, extended}
use Rattle.mv_certificate.proofs.Common.{opened, Point, edges_after, ordered}
use Rattle.std.specs.Cmp.{both_ways}
use Rattle.mv_edges.specs.Edges.{same_label, label_leq, agrees}
use Rattle.mv_edges.specs.Equality.{same_label_decides}
use Rattle.mv_edges.specs.Related.{edges_related}
use Rattle.mv_edges.specs.Sorted.{sorted}
use Rattle.mv_edges.proofs.Changes.{IsKept}
use Rattle.mv_edges.proofs.Related.{related_from_contains, related-transitive}
use Rattle.mv_edges.proofs.Sorting.{contains-sorted}
use Rattle.mv_borrow_graph.specs.Laws.Rising.{Below, after_below}
use Rattle.mv_certificate.proofs.Carried.{Alike}

-- same labels are equal
equal : (a b : Label) → same_label a b ≡ true → a ≡ b
equal a b h = (same_label_decides a b).0 h

-- so the rules keep this relation of labels
same_kept : IsKept same_label
same_kept = record {
  itself = λ l. (same_label_decides l l).1 refl;
  agreeing = λ f a b h g. subst (λ l. agrees f l ≡ true) (equal a b h) g;
  extending = λ f a b h. (same_label_decides (extended f a) (extended f b)).1 (ap (extended f) (equal a b h));
  opening = λ a b h. (same_label_decides (opened a) (opened b)).1 (ap opened (equal a b h));
}

-- each edge of the one list is in the other, and each of that is in the first
abbrev pub SameEdges : List Edge → List Edge → Type 0
SameEdges es fs = (edges_related same_label es fs ≡ true) × (edges_related same_label fs es ≡ true)

-- where each element of the one list is one of the other, each of its edges is
among : (es fs : List Edge) → ((e : Edge) → Contains es e → Contains fs e) → edges_related same_label es fs ≡ true
among es fs f = related_from_contains same_label same_kept.itself es fs f

-- edges are the same as themselves
pub SameEdges-self : (es : List Edge) → SameEdges es es
SameEdges-self es = (among es es (λ e c. c), among es es (λ e c. c))

-- where a list is related to another, so is each list whose edges are among its own
along : (le : Label → Label → Bool) (es fs gs : List Edge) → edges_related same_label es fs ≡ true → edges_related le fs gs ≡ true → edges_related le es gs ≡ true
along le es fs gs h g = related-transitive same_label le le (λ a b c e k. subst (λ l. le l c ≡ true) (sym (equal a b e)) k) es fs gs h g

-- the same where one side is put in order
pub Alike-ordered : (o1 o2 : Option (List Edge)) → Alike SameEdges o1 o2 → Alike SameEdges (ordered o1) o2
Alike-ordered None o2 a = a
Alike-ordered (Some es) None a = a
Alike-ordered (Some es) (Some fs) a = (
  along same_label (sorted es) es fs (among (sorted es) es (λ e c. (contains-sorted es e).0 c)) a.0,
  along same_label fs es (sorted es) a.1 (among es (sorted es) (λ e c. (contains-sorted es e).1 c)),
)

-- where the second result is there, the first one is, and its edges are among the second one's
abbrev Within : Option (List Edge) → Option (List Edge) → Type 0
Within = Below same_label same_kept

among_from : (es fs : List Edge) → Within (Some es) (Some fs) → edges_related same_label es fs ≡ true
among_from es fs f = let u = f fs refl in subst (λ x. edges_related same_label x fs ≡ true) (sym (same_Some es u.0 u.1.0)) u.1.1

-- two results that are within each other are alike
alike_from : (o1 o2 : Option (List Edge)) → Within o1 o2 → Within o2 o1 → Alike SameEdges o1 o2
alike_from None None f g = tt
alike_from None (Some fs) f g = let u = f fs refl in none-some u.0 u.1.0
alike_from (Some es) None f g = let u = g es refl in none-some u.0 u.1.0
alike_from (Some es) (Some fs) f g = (among_from es fs f, among_from fs es g)

-- the rule does alike for the same edges
pub rule_alike : (p : Point) (es fs : List Edge) → SameEdges es fs → (i : Instruction) → Alike SameEdges (edges_after p i es) (edges_after p i fs)
rule_alike p es fs r i = alike_from (edges_after p i es) (edges_after p i fs) (after_below same_label same_kept p i es fs r.0) (after_below same_label same_kept p i fs es r.1)

-- whether edges are below others depends on which edges there are alone
pub leq_same : (es fs gs : List Edge) → SameEdges es fs → edges_leq es gs ≡ edges_leq fs gs
leq_same es fs gs r = both_ways (edges_leq es gs) (edges_leq fs gs) (λ h. along label_leq fs es gs r.1 h) (λ h. along label_leq es fs gs r.0 h)
