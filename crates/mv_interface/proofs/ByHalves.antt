-- Definitions by their names: how they are ordered, and that the search for one by halves is exact.
--   by-name, by-no-name        entries of sorted pairs give the order, and none that of no names
--   begins, goes-down, goes-up, nowhere   how far the search came, and that it found nothing
use Rattle.std.proofs.Common.{Bor, zero, suc, [], ◌∷◌, map, ◌≡◌, ℕ, ◌+◌, ◌<◌, ◌≤◌, ◌∙◌, ◌-◌, true, false, List, length, Some, option_map, refl, subst, None, Option, unwrap_or, sym, ap, ap₂, arith, inl, inr}
use Rattle.std.specs.Prelude.{slice_get, Contains, IsPermutation, IsSorted}
use Rattle.std.specs.declared.cmp.Ordering.{Ordering}
use Rattle.std.specs.declared.cmp.Ordering.TheVariants.{Less, Equal, Greater}
use Rattle.std.specs.Ordering.{nat_cmp, ordering_reverse, ordering_then, is_eq, is_lt}
use Rattle.std.specs.Cmp.Lexicographic.{slice_cmp}
use Rattle.std.proofs.lemmas.Bool.{cases_lt, cases_eq, both_ways}
use Rattle.std.proofs.lemmas.Cmp.{nat_list_cmp_total}
use Rattle.std.proofs.lemmas.Map.Text.{is_eq-slice_cmp}
use Rattle.std.proofs.lemmas.Option.{get_or_from_slice_get, none-some, same_Some, slice_get-map, slice_get_within, slice_get_read}
use Rattle.std.proofs.lemmas.List.Sorted.{Contains-permutation, IsPermutation-sym}
use Rattle.std.proofs.lemmas.Slice.Eq.{bytes_eq-Decides}
use Rattle.mv_interface.specs.ByName.{ArePairs, IsAscending, IsByName, entry_by, indices_in, names_at}
use Rattle.mv_interface.specs.Outline.{identifier_at}
use Rattle.mv_interface.specs.declared.by_name.ByName.{ByName}

abbrev cmp : List ℕ → List ℕ → Ordering
cmp = slice_cmp nat_cmp

-- names that compare as one are one
pub same-name : (a b : List ℕ) → cmp a b ≡ Equal → a ≡ b
same-name a b e = (bytes_eq-Decides a b).0 (sym (is_eq-slice_cmp a b) ∙ ap is_eq e)

pub itself : (a : List ℕ) → cmp a a ≡ Equal
itself a = by_result (cmp a a) refl
  where
    by_result : (o : Ordering) → cmp a a ≡ o → cmp a a ≡ Equal
    by_result Equal e = e
    by_result Less e = absurd (let turn : Less ≡ Greater = sym e ∙ nat_list_cmp_total.antisymm a a ∙ ap ordering_reverse e in cc)
    by_result Greater e = absurd (let turn : Greater ≡ Less = sym e ∙ nat_list_cmp_total.antisymm a a ∙ ap ordering_reverse e in cc)

-- what is below a name is below all that isn't below that
less-on : (a b c : List ℕ) → cmp a b ≡ Less → (cmp b c ≡ Greater → ⊥) → cmp a c ≡ Less
less-on a b c l never = by_result (cmp b c) refl
  where
    by_result : (o : Ordering) → cmp b c ≡ o → cmp a c ≡ Less
    by_result Less e = nat_list_cmp_total.trans a b c l e
    by_result Equal e = ap (cmp a) (sym (same-name b c e)) ∙ l
    by_result Greater e = absurd (never e)

greater-on : (a b c : List ℕ) → cmp a b ≡ Greater → (cmp c b ≡ Greater → ⊥) → cmp a c ≡ Greater
greater-on a b c g never =
    nat_list_cmp_total.antisymm a c ∙ ap ordering_reverse (by_result (cmp c b) refl)
  where
    below : cmp b a ≡ Less
    below = nat_list_cmp_total.antisymm b a ∙ ap ordering_reverse g

    by_result : (o : Ordering) → cmp c b ≡ o → cmp c a ≡ Less
    by_result Less e = nat_list_cmp_total.trans c b a e below
    by_result Equal e = ap (λ x. cmp x a) (same-name c b e) ∙ below
    by_result Greater e = absurd (never e)

-- how far the search came: the name is above all before, and below all from there on
pub record IsSearch (names : List (List ℕ)) (order name : List ℕ) (low high : ℕ) : Type 0 where
  pub within : high ≤ length order
  pub above : (k p : ℕ) (x : List ℕ) → k < low → slice_get order k ≡ Some p → slice_get names p ≡ Some x → cmp name x ≡ Greater
  pub below : (k p : ℕ) (x : List ℕ) → high ≤ k → slice_get order k ≡ Some p → slice_get names p ≡ Some x → cmp name x ≡ Less

pub begins : (names : List (List ℕ)) (order name : List ℕ) (high : ℕ) → high ≡ length order → IsSearch names order name 0 high
begins names order name high e = record {
  within = omega (arith, e);
  above = λ k p x low. absurd (omega (arith, low));
  below = λ k p x far at. absurd (let inside = slice_get_within order k p at in omega (arith, far, e, inside));
}

pub goes-down : (names : List (List ℕ)) (order name : List ℕ) (low high middle index : ℕ) (y : List ℕ) → IsAscending names order → IsSearch names order name low high → middle < high
    → slice_get order middle ≡ Some index → slice_get names index ≡ Some y → cmp name y ≡ Less → IsSearch names order name low middle
goes-down names order name low high middle index y is s m at y_at less = record {
  within = omega (arith, m, s.within);
  above = s.above;
  below = λ k p x far k_at x_at. elim (cases_eq k middle) [
    | inl same ↦
        let one : index ≡ p = same_Some index p (sym at ∙ sym (ap (slice_get order) same) ∙ k_at) in
        let names_one : y ≡ x = same_Some y x (sym y_at ∙ ap (slice_get names) one ∙ x_at) in
        ap (cmp name) (sym names_one) ∙ less
    | inr apart ↦ less-on name y x less (is.ascends middle k index p y x (omega (arith, far, apart)) at k_at y_at x_at)
  ];
}

pub goes-up : (names : List (List ℕ)) (order name : List ℕ) (low high middle index : ℕ) (y : List ℕ) → IsAscending names order → IsSearch names order name low high
    → slice_get order middle ≡ Some index → slice_get names index ≡ Some y → cmp name y ≡ Greater → IsSearch names order name (middle + 1) high
goes-up names order name low high middle index y is s at y_at greater = record {
  within = s.within;
  above = λ k p x near k_at x_at. elim (cases_eq k middle) [
    | inl same ↦
        let one : index ≡ p = same_Some index p (sym at ∙ sym (ap (slice_get order) same) ∙ k_at) in
        let names_one : y ≡ x = same_Some y x (sym y_at ∙ ap (slice_get names) one ∙ x_at) in
        ap (cmp name) (sym names_one) ∙ greater
    | inr apart ↦ greater-on name y x greater (is.ascends k middle p index x y (omega (arith, near, apart)) k_at at x_at y_at)
  ];
  below = s.below;
}

-- at the end it is nowhere
pub nowhere : (names : List (List ℕ)) (order name : List ℕ) (low high : ℕ) → IsAscending names order → IsSearch names order name low high → high ≤ low → (k : ℕ) → slice_get names k ≡ Some name → ⊥
nowhere names order name low high is s done k at =
    let j = contained-at order k (is.all k (slice_get_within names k name at)) in
    elim (cases_lt j.0 low) [
      | inl near ↦ (let clash : Equal ≡ Greater = sym (itself name) ∙ s.above j.0 k name near j.1 at in cc)
      | inr far ↦ (let clash : Equal ≡ Less = sym (itself name) ∙ s.below j.0 k name (omega (arith, far, done)) j.1 at in cc)
    ]
  where
    contained-at : (xs : List ℕ) (x : ℕ) → Contains xs x → (k : ℕ) × (slice_get xs k ≡ Some x)
    contained-at xs x (k, inside, e) = (k, slice_get_read xs (length xs) k x refl inside (sym e))

-- ---- pairs

pub record PairsSoFar (names : List (List ℕ)) (pairs : List (Bor (List ℕ) × ℕ)) (i : ℕ) : Type 0 where
  pub len : length pairs ≡ i
  pub each : (k : ℕ) (p : Bor (List ℕ) × ℕ) → slice_get pairs k ≡ Some p → (p.1 ≡ k) × (slice_get names k ≡ Some p.0.now)

pub all-pairs : (names : List (List ℕ)) (pairs : List (Bor (List ℕ) × ℕ)) (i : ℕ) → PairsSoFar names pairs i → i ≡ length names → ArePairs names pairs
all-pairs names pairs i s e = record { len = s.len ∙ e; each = s.each }

-- ---- the order of sorted pairs

abbrev Pair : Type 0
Pair = Bor (List ℕ) × ℕ

abbrev pair_cmp : Pair → Pair → Ordering
pair_cmp x y = ordering_then (slice_cmp nat_cmp x.0.now y.0.now) (nat_cmp x.1 y.1)

-- a name is not above another one
abbrev NotAbove : List ℕ → List ℕ → Type 0
NotAbove a b = cmp a b ≡ Greater → ⊥

not-above-on : (a b c : List ℕ) → NotAbove a b → NotAbove b c → NotAbove a c
not-above-on a b c first second above = by_result (cmp a b) refl
  where
    by_result : (o : Ordering) → cmp a b ≡ o → ⊥
    by_result Less e = (let low = less-on a b c e second in let clash : Less ≡ Greater = sym low ∙ above in cc)
    by_result Equal e = second (ap (λ x. cmp x c) (sym (same-name a b e)) ∙ above)
    by_result Greater e = first e

next-above : (x y : Pair) → is_lt (pair_cmp y x) ≡ false → NotAbove x.0.now y.0.now
next-above x y never above =
    let back : cmp y.0.now x.0.now ≡ Less = nat_list_cmp_total.antisymm y.0.now x.0.now ∙ ap ordering_reverse above in
    let yes : is_lt (pair_cmp y x) ≡ true = ap (λ o. is_lt (ordering_then o (nat_cmp y.1 x.1))) back in
    both_ways (is_lt (pair_cmp y x)) never yes

module _ (names : List (List ℕ)) (pairs sorted : List Pair) (are : ArePairs names pairs) (moves : IsPermutation pairs sorted) (rises : IsSorted pair_cmp sorted) where
  contained : (xs : List Pair) (x : Pair) → Contains xs x → (k : ℕ) × (slice_get xs k ≡ Some x)
  contained xs x (k, inside, e) = (k, slice_get_read xs (length xs) k x refl inside (sym e))

  contains : (xs : List Pair) (k : ℕ) (x : Pair) → slice_get xs k ≡ Some x → Contains xs x
  contains xs k x e = (k, slice_get_within xs k x e, get_or_from_slice_get xs k x x e)

  -- a sorted pair has its name
  pub pair-named : (k : ℕ) (x : Pair) → slice_get sorted k ≡ Some x → slice_get names x.1 ≡ Some x.0.now
  pair-named k x at =
      let there = contained pairs x (Contains-permutation sorted pairs x (IsPermutation-sym pairs sorted moves) (contains sorted k x at)) in
      let both = are.each there.0 x there.1 in
      ap (slice_get names) both.0 ∙ both.1

  next : (k : ℕ) (x y : Pair) → slice_get sorted k ≡ Some x → slice_get sorted (k + 1) ≡ Some y → NotAbove x.0.now y.0.now
  next k x y at next_at =
      let inside = slice_get_within sorted (k + 1) y next_at in
      let never = rises k x (omega arith) inside in
      next-above x y (sym (ap₂ (λ a b. is_lt (pair_cmp a b)) (get_or_from_slice_get sorted (k + 1) y x next_at) (get_or_from_slice_get sorted k x x at)) ∙ never)

  apart : (d j : ℕ) (x y : Pair) → slice_get sorted j ≡ Some x → slice_get sorted (j + 1 + d) ≡ Some y → NotAbove x.0.now y.0.now
  apart zero j x y at far_at = let one : j + 1 ≡ j + 1 + 0 = omega arith in next j x y at (ap (slice_get sorted) one ∙ far_at)
  apart (suc d) j x y at far_at =
      let inside = slice_get_within sorted (j + 1 + suc d) y far_at in
      let middle = there-at sorted (j + 1 + d) (omega (arith, inside)) in
      let one : j + 1 + suc d ≡ j + 1 + d + 1 = omega arith in
      not-above-on x.0.now middle.0.0.now y.0.now (apart d j x middle.0 at middle.1) (next (j + 1 + d) middle.0 y middle.1 (sym (ap (slice_get sorted) one) ∙ far_at))
    where
      there-at : (xs : List Pair) (k : ℕ) → k < length xs → (z : Pair) × (slice_get xs k ≡ Some z)
      there-at [] k h = absurd (omega (arith, h))
      there-at (z ∷ xs) zero h = (z, refl)
      there-at (z ∷ xs) (suc k) h = there-at xs k (omega (arith, h))

  module _ (order : List ℕ) (is : order ≡ map (λ (p : Pair). p.1) sorted) where
    back : (k p : ℕ) → slice_get order k ≡ Some p → (x : Pair) × (slice_get sorted k ≡ Some x) × (x.1 ≡ p)
    back k p at = mapped sorted k (sym (ap (λ l. slice_get l k) is) ∙ at)
      where
        mapped : (xs : List Pair) (k : ℕ) → slice_get (map (λ (q : Pair). q.1) xs) k ≡ Some p → (x : Pair) × (slice_get xs k ≡ Some x) × (x.1 ≡ p)
        mapped [] k e = absurd (none-some p e)
        mapped (x ∷ xs) zero e = (x, refl, same_Some x.1 p e)
        mapped (x ∷ xs) (suc k) e = mapped xs k e

    pub ordered : IsAscending names order
    ordered = record {
      all = λ p low.
          let x = pair-at pairs p (omega (arith, low, are.len)) in
          let k = contained sorted x.0 (Contains-permutation pairs sorted x.0 moves (contains pairs p x.0 x.1)) in
          let at : slice_get order k.0 ≡ Some p = ap (λ l. slice_get l k.0) is ∙ slice_get-map (λ (q : Pair). q.1) sorted k.0 ∙ ap (option_map (λ (q : Pair). q.1)) k.1 ∙ ap (λ n. Some n) (are.each p x.0 x.1).0 in
          (k.0, slice_get_within order k.0 p at, get_or_from_slice_get order k.0 p p at);
      low = λ k p at. (let x = back k p at in slice_get_within names p x.0.0.now (sym (ap (slice_get names) x.2) ∙ pair-named k x.0 x.1));
      ascends = λ j k p q x y before p_at q_at x_at y_at.
          let a = back j p p_at in
          let b = back k q q_at in
          let a_is : a.0.0.now ≡ x = same_Some a.0.0.now x (sym (pair-named j a.0 a.1) ∙ ap (slice_get names) a.2 ∙ x_at) in
          let b_is : b.0.0.now ≡ y = same_Some b.0.0.now y (sym (pair-named k b.0 b.1) ∙ ap (slice_get names) b.2 ∙ y_at) in
          let far : j + 1 + (k - (j + 1)) ≡ k = omega (arith, before) in
          let never = apart (k - (j + 1)) j a.0 b.0 a.1 (ap (slice_get sorted) far ∙ b.1) in
          λ above. never (ap₂ cmp a_is b_is ∙ above);
    }
      where
        pair-at : (xs : List Pair) (k : ℕ) → k < length xs → (z : Pair) × (slice_get xs k ≡ Some z)
        pair-at [] k h = absurd (omega (arith, h))
        pair-at (z ∷ xs) zero h = (z, refl)
        pair-at (z ∷ xs) (suc k) h = pair-at xs k (omega (arith, h))

-- ---- the entries of sorted pairs

-- the indices of entries are those that they were made of
indices-are : (indices order : List ℕ) → indices_in (map (entry_by indices) order) ≡ order
indices-are indices [] = refl
indices-are indices (i ∷ is) = ap (λ l. i ∷ l) (indices-are indices is)

-- what stands at an index of names that were read
read-at : (identifiers : List (List ℕ)) (o : Option ℕ) (name : List ℕ) → option_map (identifier_at identifiers) o ≡ Some name → identifier_at identifiers (unwrap_or o 0) ≡ name
read-at identifiers None name e = absurd (none-some name e)
read-at identifiers (Some i) name e = same_Some (identifier_at identifiers i) name e

-- the index of an entry
entry-back : (indices order : List ℕ) (k : ℕ) (e : ByName) → slice_get (map (entry_by indices) order) k ≡ Some e → (i : ℕ) × (slice_get order k ≡ Some i) × (entry_by indices i ≡ e)
entry-back indices [] k e at = absurd (none-some e at)
entry-back indices (i ∷ is) zero e at = (i, refl, same_Some (entry_by indices i) e at)
entry-back indices (i ∷ is) (suc k) e at = entry-back indices is k e at

pub by-name : (identifiers : List (List ℕ)) (indices : List ℕ) (pairs sorted : List Pair) (order : List ℕ) (entries : List ByName) → ArePairs (names_at identifiers indices) pairs
    → IsPermutation pairs sorted → IsSorted pair_cmp sorted → order ≡ map (λ (p : Pair). p.1) sorted → entries ≡ map (entry_by indices) order → IsByName identifiers (names_at identifiers indices) entries
by-name identifiers indices pairs sorted order entries are moves rises order_is is =
    let names = names_at identifiers indices in
    record {
      ascending = ordered names pairs sorted are moves rises (indices_in entries) (ap indices_in is ∙ indices-are indices order ∙ order_is);
      named = λ k e at.
          let b = entry-back indices order k e (sym (ap (λ l. slice_get l k) is) ∙ at) in
          let p = back names pairs sorted are moves rises order order_is k b.0 b.1 in
          let named : slice_get names b.0 ≡ Some p.0.0.now = ap (slice_get names) (sym p.2) ∙ pair-named names pairs sorted are moves rises k p.0 p.1 in
          let read : identifier_at identifiers (unwrap_or (slice_get indices b.0) 0) ≡ p.0.0.now =
          read-at identifiers (slice_get indices b.0) p.0.0.now (sym (slice_get-map (identifier_at identifiers) indices b.0) ∙ named) in
          subst (λ (x : ByName). slice_get names x.index ≡ Some (identifier_at identifiers x.identifier)) b.2 (named ∙ ap (λ n. Some n) (sym read));
    }

-- no definitions
pub by-no-name : (identifiers : List (List ℕ)) (indices : List ℕ) (entries : List ByName) → indices ≡ [] → entries ≡ [] → IsByName identifiers (names_at identifiers indices) entries
by-no-name identifiers indices entries no_index no_entry =
    subst (λ (l : List ℕ). IsByName identifiers (names_at identifiers l) entries) (sym no_index) (subst (λ (l : List ByName). IsByName identifiers [] l) (sym no_entry) (record {
      ascending = record {
        all = λ p low. absurd (omega (arith, low));
        low = λ k p at. absurd (none-some p at);
        ascends = λ j k p q x y before p_at q_at x_at y_at. absurd (none-some p p_at);
      };
      named = λ k e at. absurd (none-some e at);
    }))
