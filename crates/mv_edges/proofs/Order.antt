-- The order of labels, edges and lists of edges.
use Rattle.mv_edges.proofs.Common.{[], ℕ, ◌&&◌, ◌++◌, ◌↔◌, ◌∙◌, ◌∷◌, ◌≡◌, ◌⊎◌, Contains, List, eqb, inl, inr, refl, subst, sym, true, true≢false, and_from, and_parts, eq-eqb, eqb-true}
use Rattle.mv_edges.proofs.Common.{or_cases, or_left, or_right, Contains-append_cases, Contains-append_left, Contains-append_right, beq, bytes_eq, begins, Edge, Label, edge_leq, edges_leq}
use Rattle.mv_edges.proofs.Common.{label_leq, IsJoin, sorted}
use Rattle.mv_edges.specs.Edges.{same_label}
use Rattle.mv_edges.specs.Equality.{same_label_decides}
use Rattle.mv_edges.proofs.Sorting.{contains-sorted}
use Rattle.mv_edges.proofs.Related.{Passing, partner, edges_related_from, related_from, related_from_contains, related-transitive}

-- ---- prefixes

pub begins-transitive : (xs ys zs : List ℕ) → begins xs ys ≡ true → begins ys zs ≡ true → begins xs zs ≡ true
begins-transitive [] ys zs h g = refl
begins-transitive (x ∷ xs) [] zs h g = absurd (true≢false (sym h))
begins-transitive (x ∷ xs) (y ∷ ys) [] h g = absurd (true≢false (sym g))
begins-transitive (x ∷ xs) (y ∷ ys) (z ∷ zs) h g =
    let a = and_parts (eqb x y) (begins xs ys) h in
    let b = and_parts (eqb y z) (begins ys zs) g in
    and_from (eqb x z) (begins xs zs) (eq-eqb x z (eqb-true x y a.0 ∙ eqb-true y z b.0)) (begins-transitive xs ys zs a.1 b.1)

pub begins-append : (xs ys : List ℕ) → begins xs (xs ++ ys) ≡ true
begins-append [] ys = refl
begins-append (x ∷ xs) ys = and_from (eqb x x) (begins xs (xs ++ ys)) (eq-eqb x x refl) (begins-append xs ys)

-- ---- labels

-- a label is below itself, and below an open one whose list begins its own
pub data LabelBelow (a b : Label) : Type 0 where
  same : a ≡ b → LabelBelow a b
  prefix : b.is_open ≡ true → begins b.path a.path ≡ true → LabelBelow a b

pub label_below : (a b : Label) → label_leq a b ≡ true → LabelBelow a b
label_below a b h =
    elim (or_cases (bytes_eq a.path b.path && beq a.is_open b.is_open) (b.is_open && begins b.path a.path) h) [
      | inl g ↦ same ((same_label_decides a b).0 g)
      | inr g ↦ let parts = and_parts b.is_open (begins b.path a.path) g in prefix parts.0 parts.1
    ]

pub label_leq_same : (a b : Label) → a ≡ b → label_leq a b ≡ true
label_leq_same a b h = or_left (same_label a b) (b.is_open && begins b.path a.path) ((same_label_decides a b).1 h)

pub label_leq_prefix : (a b : Label) → b.is_open ≡ true → begins b.path a.path ≡ true → label_leq a b ≡ true
label_leq_prefix a b h g = or_right (same_label a b) (b.is_open && begins b.path a.path) (and_from b.is_open (begins b.path a.path) h g)

pub label_leq_itself : (l : Label) → label_leq l l ≡ true
label_leq_itself l = label_leq_same l l refl

pub label_leq-transitive : (a b c : Label) → label_leq a b ≡ true → label_leq b c ≡ true → label_leq a c ≡ true
label_leq-transitive a b c h g = by_cases (label_below a b h) (label_below b c g)
  where
    by_cases : LabelBelow a b → LabelBelow b c → label_leq a c ≡ true
    by_cases (same e) k = subst (λ x. label_leq x c ≡ true) (sym e) g
    by_cases (prefix o p) (same e) = subst (λ x. label_leq a x ≡ true) e h
    by_cases (prefix o p) (prefix q r) = label_leq_prefix a c q (begins-transitive c.path b.path a.path r p)

-- ---- edges and lists of edges

pub edge_leq_itself : (e : Edge) → edge_leq e e ≡ true
edge_leq_itself e = related_from label_leq e e refl refl (label_leq_itself e.label)

-- each edge of the one list is below one of the other
pub above : (es fs : List Edge) → edges_leq es fs ≡ true → (e : Edge) → Contains es e → Passing (edge_leq e) fs
above es fs h e c = partner label_leq es fs h e c

pub edges_leq_from : (es fs : List Edge) → ((e : Edge) → Contains es e → Passing (edge_leq e) fs) → edges_leq es fs ≡ true
edges_leq_from es fs f = edges_related_from label_leq es fs f

-- a list is below one that has its edges
pub edges_leq_from_contains : (es fs : List Edge) → ((e : Edge) → Contains es e → Contains fs e) → edges_leq es fs ≡ true
edges_leq_from_contains es fs f = related_from_contains label_leq label_leq_itself es fs f

pub edges_leq_itself : (es : List Edge) → edges_leq es es ≡ true
edges_leq_itself es = edges_leq_from_contains es es (λ e c. c)

pub edges_leq-transitive : (es fs gs : List Edge) → edges_leq es fs ≡ true → edges_leq fs gs ≡ true → edges_leq es gs ≡ true
edges_leq-transitive es fs gs h g = related-transitive label_leq label_leq label_leq label_leq-transitive es fs gs h g

-- a list that has just the edges of two is the least above both
pub join_from_members : (a b s : List Edge) → ((e : Edge) → Contains s e ↔ (Contains a e ⊎ Contains b e)) → IsJoin a b s
join_from_members a b s f = record {
  members = f;
  left = edges_leq_from_contains a s (λ e c. (f e).1 (inl c));
  right = edges_leq_from_contains b s (λ e c. (f e).1 (inr c));
  least = λ c h g. edges_leq_from s c (λ e d. elim ((f e).0 d) [ inl x ↦ above a c h e x | inr x ↦ above b c g e x ]);
}

pub join-sorted : (a b : List Edge) → IsJoin a b (sorted (a ++ b))
join-sorted a b =
    join_from_members a b (sorted (a ++ b))
    (λ e. (
      λ c. Contains-append_cases a b e ((contains-sorted (a ++ b) e).0 c),
      λ c. (contains-sorted (a ++ b) e).1 (elim c [ inl d ↦ Contains-append_left a b e d | inr d ↦ Contains-append_right a b e d ]),
    ))
