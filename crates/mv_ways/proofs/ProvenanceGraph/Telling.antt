-- A reference's edges, told in parts: what is derived for each provenance that was given to a function, opened, and what is derived for its
-- own provenance.
use Rattle.mv_edges.proofs.Common.{[], ℕ, zero, suc, ◌++◌, ◌+◌, ◌<◌, ◌∙◌, ◌∷◌, ◌≡◌, ◌≤◌, ◌||◌, Bool, Contains, List, ap, append-nil, append_assoc, arith, cond, drop, false, flat_map, flat_map-append, get_or, length, list_any, list_any-append, refl, subst, sym, take, take-append-drop, take_more, true, true≢false}
use Rattle.mv_edges.proofs.Common.{Edge, Node, cases_lt, here, inl, inr, opened, same_edge, same_edge_decides, sorted}
use Rattle.mv_edges.proofs.Related.{list_any_from, passing}
use Rattle.mv_edges.proofs.AsSets.{any-sorted, sorted-append, sorted_behind_alike}
use Rattle.mv_edges.proofs.Sorting.{sorted-append_swap, sorted_alike}
use Rattle.mv_ways.specs.Behind.{a_tail, edges_with}
use Rattle.mv_ways.specs.Derived.{derived_edges}
use Rattle.mv_ways.specs.Going.{AreLeading, IsReturned, LeadsTo, was_given}
use Rattle.mv_ways.specs.Going.LeadsTo.{itself, by_derived, by_given}
use Rattle.mv_ways.specs.Telling.{given_edges, marked_edges}
use Rattle.mv_ways.specs.Told.{IsTold}
use Rattle.mv_ways.specs.Provenances.{ProvenanceGraph, all_origins, are_earlier, origins_at, reference_edges}
use Rattle.mv_ways.specs.declared.provenances.Reference.{Reference}
use Rattle.mv_ways.specs.declared.provenances.under.leading.Mark.{Mark}
use Rattle.mv_ways.specs.declared.provenances.under.leading.Mark.TheVariants.{Nothing}
use Rattle.mv_ways.proofs.ProvenanceGraph.Behind.{by_here}
use Rattle.mv_ways.proofs.ProvenanceGraph.Normal.{chain_ends, given_hold, normal}
use Rattle.mv_ways.proofs.ProvenanceGraph.Terms.{all_given}

-- ---- lists with the same edges

abbrev pub has : Edge → List Edge → Bool
has e es = list_any (same_edge e) es

same_untruth : (a b : Bool) → (a ≡ false → b ≡ false) → (b ≡ false → a ≡ false) → a ≡ b
same_untruth true true f g = refl
same_untruth true false f g = g refl
same_untruth false true f g = sym (f refl)
same_untruth false false f g = refl

pub has_contains : (es : List Edge) (e : Edge) → has e es ≡ true → Contains es e
has_contains es e h =
    let p = passing (same_edge e) es h in
    subst (λ x. Contains es x) (sym ((same_edge_decides e p.edge).0 p.passes)) p.there

pub contains_has : (es : List Edge) (e : Edge) → Contains es e → has e es ≡ true
contains_has es e c = list_any_from (same_edge e) es e c ((same_edge_decides e e).1 refl)

pub sorted_by_has : (es fs : List Edge) → ((e : Edge) → has e es ≡ has e fs) → sorted es ≡ sorted fs
sorted_by_has es fs same =
    sorted_alike es fs (λ e. (
      λ c. has_contains fs e (sym (same e) ∙ contains_has es e c),
      λ c. has_contains es e (same e ∙ contains_has fs e c),
    ))

module _ (e : Edge) where
  abbrev Lacks : List Edge → Type 0
  Lacks es = has e es ≡ false

  both : (xs ys : List Edge) → Lacks xs → Lacks ys → Lacks (xs ++ ys)
  both xs ys p q = list_any-append (same_edge e) xs ys ∙ ap (λ b. b || has e ys) p ∙ q

  split : (xs ys : List Edge) → Lacks (xs ++ ys) → Lacks xs × Lacks ys
  split xs ys p = by_cases (has e xs) (has e ys) (sym (list_any-append (same_edge e) xs ys) ∙ p)
    where
      by_cases : (a b : Bool) → (a || b) ≡ false → (a ≡ false) × (b ≡ false)
      by_cases true b h = absurd (true≢false h)
      by_cases false b h = (refl, h)

  alike : (xs ys : List Edge) → sorted xs ≡ sorted ys → Lacks xs → Lacks ys
  alike xs ys same p = sym (any-sorted (same_edge e) ys) ∙ ap (has e) (sym same) ∙ any-sorted (same_edge e) xs ∙ p

-- ---- the edges of given provenances

module _ (f : ℕ → List Edge) (marks : List Mark) where
  pub given_more : (n : ℕ) → given_edges f marks (n + 1) ≡ given_edges f marks n ++ marked_edges f (get_or marks n Nothing) n
  given_more n = let more : n + 1 ≡ suc n = omega arith in ap (given_edges f marks) more

  -- the others come behind those of the first provenances
  pub given_rest : (k n : ℕ) → k ≤ n → (rest : List Edge) × (given_edges f marks n ≡ given_edges f marks k ++ rest)
  given_rest k zero h = let same : k ≡ zero = omega (arith, h) in ([], ap (given_edges f marks) (sym same) ∙ sym (append-nil (given_edges f marks k)))
  given_rest k (suc n) h =
      elim (cases_lt n k) [
        | inl less ↦
            let same : k ≡ suc n = omega (arith, less, h) in
            ([], ap (given_edges f marks) (sym same) ∙ sym (append-nil (given_edges f marks k)))
        | inr low ↦
            let one = marked_edges f (get_or marks n Nothing) n in
            let before = given_rest k n (omega (arith, low)) in
            (before.0 ++ one, ap (λ es. es ++ one) before.1 ∙ append_assoc (given_edges f marks k) before.0 one)
      ]

  -- each of them lacks an edge that all lack, and the other way round
  module _ (e : Edge) where
    one_lacks : (n k : ℕ) → has e (given_edges f marks n) ≡ false → k < n → was_given (get_or marks k Nothing) ≡ true → has e (f k) ≡ false
    one_lacks zero k p h is = absurd (omega (arith, h))
    one_lacks (suc n) k p h is =
        let parts = split e (given_edges f marks n) (marked_edges f (get_or marks n Nothing) n) p in
        elim (cases_lt k n) [
          | inl less ↦ one_lacks n k parts.0 less is
          | inr last ↦
              let same : n ≡ k = omega (arith, last, h) in
              let given : was_given (get_or marks n Nothing) ≡ true = subst (λ j. was_given (get_or marks j Nothing) ≡ true) (sym same) is in
              subst (λ j. has e (f j) ≡ false) same (ap (λ b. has e (cond b (f n) [])) (sym given) ∙ parts.1)
        ]

    all_lack : (n : ℕ) → ((k : ℕ) → k < n → was_given (get_or marks k Nothing) ≡ true → has e (f k) ≡ false) → has e (given_edges f marks n) ≡ false
    all_lack zero each = refl
    all_lack (suc n) each =
        both e (given_edges f marks n) (marked_edges f (get_or marks n Nothing) n) (all_lack n (λ k h is. each k (omega (arith, h)) is))
        (last (was_given (get_or marks n Nothing)) (each n (omega arith)))
      where
        last : (b : Bool) → (b ≡ true → has e (f n) ≡ false) → has e (cond b (f n) []) ≡ false
        last true h = h refl
        last false h = refl

-- ---- a reference's edges

module _ (g : ProvenanceGraph) (r : Reference) (marks : List Mark) (end : ℕ) (earlier : are_earlier 0 g.provenances ≡ true) (within : r.provenance < length g.provenances)
    (inside : end ≤ length g.provenances) (before : (k : ℕ) → IsReturned g.provenances r.provenance 0 k → k < end) (leading : 0 < end → AreLeading g.provenances r.provenance marks) where
  abbrev Derived : ℕ → List Edge
  Derived = derived_edges g r.node true

  abbrev given_told : List Edge
  given_told = given_edges Derived marks end

  -- what leads to each provenance that its chain ends with, opened
  abbrev given_here : List Edge
  given_here = flat_map (λ k. edges_with g.sources r.node (origins_at (all_origins g.provenances) k) (a_tail (opened here) ∷ [])) (get_or (all_given g.provenances) r.provenance [])

  is_marked : (k : ℕ) → IsReturned g.provenances r.provenance 0 k → was_given (get_or marks k Nothing) ≡ true
  is_marked k is = let low = before k is in ((leading (omega (arith, low))).returned k Nothing (omega (arith, low, inside))).1 is

  same_given : (e : Edge) → has e given_here ≡ has e given_told
  same_given e =
      same_untruth (has e given_here) (has e given_told)
      (λ lacks. all_lack Derived marks e end (λ k low is.
      given_hold g.sources r.node g.provenances earlier (Lacks e) (split e) (alike e) r.provenance lacks k (((leading (omega (arith, low))).returned k Nothing (omega (arith, low, inside))).0 is)))
      (λ lacks. chain_ends g.sources r.node g.provenances earlier (Lacks e) refl (both e) (alike e) (LeadsTo g.provenances r.provenance) (IsReturned g.provenances r.provenance 0)
      (λ k over provenance at origins o. by_derived (record { at = at; over = o }) origins)
      (λ k j provenance at origins has. (by_given (record { at = at; has = has }) origins, record { child = k; provenance = provenance; behind = omega arith; giving = record { at = at; has = has }; leading = origins }))
      (λ k is. one_lacks Derived marks e end k lacks (before k is) (is_marked k is)) (suc r.provenance) r.provenance (omega arith) within itself)

  -- what is told of it is all of it
  told_whole : sorted (given_told ++ derived_edges g r.node false r.provenance) ≡ sorted (reference_edges g.sources (all_origins g.provenances) r)
  told_whole =
      let derived = derived_edges g r.node false r.provenance in
      let origins = origins_at (all_origins g.provenances) r.provenance in
      sorted-append_swap given_told derived
      ∙ sorted_behind_alike derived given_told given_here (sym (sorted_by_has given_here given_told same_given))
      ∙ sym (normal g.sources r.node g.provenances earlier (suc r.provenance) r.provenance (a_tail here) (omega arith) within)
      ∙ ap sorted (by_here g.sources r.node origins)

  pub told_all : (node its : Node) (provenance : ℕ) → node ≡ r.node → its ≡ r.node → provenance ≡ r.provenance
      → sorted (given_edges (derived_edges g node true) marks end ++ derived_edges g its false provenance) ≡ sorted (reference_edges g.sources (all_origins g.provenances) r)
  told_all node its provenance n m w = (λ i. sorted (given_edges (derived_edges g (n i) true) marks end ++ derived_edges g (m i) false (w i))) ∙ told_whole

-- ---- what a sink was told in parts

module _ {S : Type 0} (after : S → List Edge → S → Type 0) (joined : (r s t : S) (es fs : List Edge) → after r es s → after s fs t → after r (es ++ fs) t)
    (alike : (s t : S) (es fs : List Edge) → sorted es ≡ sorted fs → after s es t → after s fs t) where
  -- the rest is told
  pub told_rest : (old mid new : S) (es fs all : List Edge) (more : Bool) → sorted (es ++ fs) ≡ sorted all → after old es mid → IsTold after mid fs more new → IsTold after old all more new
  told_rest old mid new es fs all true same first second = alike old new (es ++ fs) all same (joined old mid new es fs first second)
  told_rest old mid new es fs all false same first second = λ gs.
      alike old new (es ++ (fs ++ gs)) (all ++ gs) (ap sorted (sym (append_assoc es fs gs)) ∙ sorted-append (es ++ fs) all gs gs same refl)
      (joined old mid new es (fs ++ gs) first (second gs))

  -- no more is wanted
  pub told_no_more : (old new : S) (es fs all : List Edge) → sorted (es ++ fs) ≡ sorted all → IsTold after old es false new → IsTold after old all false new
  told_no_more old new es fs all same it = λ gs.
      alike old new (es ++ (fs ++ gs)) (all ++ gs) (ap sorted (sym (append_assoc es fs gs)) ∙ sorted-append (es ++ fs) all gs gs same refl) (it (fs ++ gs))

  -- all of it was told, or is as good as told
  pub told_done : (old new : S) (es : List Edge) (more : Bool) → IsTold after old es more new → after old es new
  told_done old new es true it = it
  told_done old new es false it = alike old new (es ++ []) es (ap sorted (append-nil es)) (it [])

-- ---- references of some nodes

pub led_more : (f : Reference → List Edge) (rs : List Reference) (i : ℕ) (d : Reference) → i < length rs → flat_map f (take (i + 1) rs) ≡ flat_map f (take i rs) ++ f (get_or rs i d)
led_more f rs i d inside =
    ap (flat_map f) (take_more rs i d inside) ∙ flat_map-append f (take i rs) (get_or rs i d ∷ []) ∙ ap (λ es. flat_map f (take i rs) ++ es) (append-nil (f (get_or rs i d)))

pub led_rest : (f : Reference → List Edge) (rs : List Reference) (i : ℕ) (d : Reference) → i < length rs → (flat_map f (take i rs) ++ f (get_or rs i d)) ++ flat_map f (drop (i + 1) rs) ≡ flat_map f rs
led_rest f rs i d inside =
    ap (λ es. es ++ flat_map f (drop (i + 1) rs)) (sym (led_more f rs i d inside))
    ∙ sym (flat_map-append f (take (i + 1) rs) (drop (i + 1) rs)) ∙ ap (flat_map f) (take-append-drop (i + 1) rs)
