-- The order of lists of numbers, and one order after another.
use Rattle.mv_edges.proofs.Common.{[], ℕ, ◌&&◌, ◌<◌, ◌||◌, ◌∙◌, ◌∷◌, ◌≡◌, ◌⊎◌, Bool, List, ap, arith, eqb, false, inl, inr, ltb, refl, subst, sym, true, true≢false, and_cases, and_from}
use Rattle.mv_edges.proofs.Common.{and_parts, both_ways, eq-eqb, eqb-true, le-ltb, lt-ltb, ltb-false, ltb-true, or_cases, or_left, or_parts, or_right, list_before}
use Rattle.std.proofs.Common.{Decides}
use Rattle.std.proofs.lemmas.Bool.{and_right, or_from}

-- a strict order whose ties are what is the same
pub record IsStrictUpTo {X : Type 0} (lt : X → X → Bool) (Same : X → X → Type 0) : Type 0 where
  pub irreflexive : (x : X) → lt x x ≡ false
  pub transitive : (x y z : X) → lt x y ≡ true → lt y z ≡ true → lt x z ≡ true
  pub ties : (x y : X) → lt x y ≡ false → lt y x ≡ false → Same x y

pub irreflexive : (xs : List ℕ) → list_before xs xs ≡ false
irreflexive [] = refl
irreflexive (x ∷ xs) = or_from (ltb x x) (eqb x x && list_before xs xs) (le-ltb x x (omega arith)) (and_right (eqb x x) (list_before xs xs) (irreflexive xs))

pub before_cases : (x : ℕ) (xs : List ℕ) (y : ℕ) (ys : List ℕ) → list_before (x ∷ xs) (y ∷ ys) ≡ true → (x < y) ⊎ ((x ≡ y) × (list_before xs ys ≡ true))
before_cases x xs y ys h =
    elim (or_cases (ltb x y) (eqb x y && list_before xs ys) h) [
      | inl g ↦ inl (ltb-true x y g)
      | inr g ↦ let parts = and_parts (eqb x y) (list_before xs ys) g in inr (eqb-true x y parts.0, parts.1)
    ]

pub before_first : (x : ℕ) (xs : List ℕ) (y : ℕ) (ys : List ℕ) → x < y → list_before (x ∷ xs) (y ∷ ys) ≡ true
before_first x xs y ys h = or_left (ltb x y) (eqb x y && list_before xs ys) (lt-ltb x y h)

pub before_later : (x : ℕ) (xs : List ℕ) (y : ℕ) (ys : List ℕ) → x ≡ y → list_before xs ys ≡ true → list_before (x ∷ xs) (y ∷ ys) ≡ true
before_later x xs y ys h g = or_right (ltb x y) (eqb x y && list_before xs ys) (and_from (eqb x y) (list_before xs ys) (eq-eqb x y h) g)

transitive : (xs ys zs : List ℕ) → list_before xs ys ≡ true → list_before ys zs ≡ true → list_before xs zs ≡ true
transitive [] [] zs h g = absurd (true≢false (sym h))
transitive (x ∷ xs) [] zs h g = absurd (true≢false (sym h))
transitive [] (y ∷ ys) [] h g = absurd (true≢false (sym g))
transitive (x ∷ xs) (y ∷ ys) [] h g = absurd (true≢false (sym g))
transitive [] (y ∷ ys) (z ∷ zs) h g = refl
transitive (x ∷ xs) (y ∷ ys) (z ∷ zs) h g =
    elim (before_cases x xs y ys h) [
      | inl a ↦ elim (before_cases y ys z zs g) [ inl b ↦ before_first x xs z zs (omega (arith, a, b)) | inr b ↦ let e = b.0 in before_first x xs z zs (omega (arith, a, e)) ]
      | inr a ↦ elim (before_cases y ys z zs g) [
        | inl b ↦ let e = a.0 in before_first x xs z zs (omega (arith, e, b))
        | inr b ↦ before_later x xs z zs (a.0 ∙ b.0) (transitive xs ys zs a.1 b.1)
      ]
    ]

pub total : (xs ys : List ℕ) → list_before xs ys ≡ false → list_before ys xs ≡ false → xs ≡ ys
total [] [] h g = refl
total [] (y ∷ ys) h g = absurd (true≢false h)
total (x ∷ xs) [] h g = absurd (true≢false g)
total (x ∷ xs) (y ∷ ys) h g =
    let a = or_parts (ltb x y) (eqb x y && list_before xs ys) h in
    let b = or_parts (ltb y x) (eqb y x && list_before ys xs) g in
    let low = ltb-false x y a.0 in
    let high = ltb-false y x b.0 in
    let e : x ≡ y = omega (arith, low, high) in
    let rest = total xs ys
    (elim (and_cases (eqb x y) (list_before xs ys) a.1) [ inl n ↦ absurd (both_ways (eqb x y) n (eq-eqb x y e)) | inr n ↦ n ])
    (elim (and_cases (eqb y x) (list_before ys xs) b.1) [ inl n ↦ absurd (both_ways (eqb y x) n (eq-eqb y x (sym e))) | inr n ↦ n ]) in
    ap (λ w. w ∷ xs) e ∙ ap (λ w. y ∷ w) rest

pub list_before_strict : IsStrictUpTo list_before (λ xs ys. xs ≡ ys)
list_before_strict = record { irreflexive = irreflexive; transitive = transitive; ties = total }

-- by a key, and at equal keys by another order
module _ {X K : Type 0} (key : X → K) (lt : K → K → Bool) (eq : K → K → Bool) (decides : (a b : K) → Decides (eq a b) (a ≡ b)) (o : IsStrictUpTo lt (λ a b. a ≡ b)) (less : X → X → Bool) where
  abbrev pub key_then : X → X → Bool
  key_then x y = lt (key x) (key y) || eq (key x) (key y) && less x y

  then_cases : (x y : X) → key_then x y ≡ true → (lt (key x) (key y) ≡ true) ⊎ ((key x ≡ key y) × (less x y ≡ true))
  then_cases x y h =
      elim (or_cases (lt (key x) (key y)) (eq (key x) (key y) && less x y) h) [
        | inl g ↦ inl g
        | inr g ↦ let parts = and_parts (eq (key x) (key y)) (less x y) g in inr ((decides (key x) (key y)).0 parts.0, parts.1)
      ]

  then_first : (x y : X) → lt (key x) (key y) ≡ true → key_then x y ≡ true
  then_first x y h = or_left (lt (key x) (key y)) (eq (key x) (key y) && less x y) h

  then_later : (x y : X) → key x ≡ key y → less x y ≡ true → key_then x y ≡ true
  then_later x y h g = or_right (lt (key x) (key y)) (eq (key x) (key y) && less x y) (and_from (eq (key x) (key y)) (less x y) ((decides (key x) (key y)).1 h) g)

  module _ (Same : X → X → Type 0) (l : IsStrictUpTo less Same) where
    then_transitive : (x y z : X) → key_then x y ≡ true → key_then y z ≡ true → key_then x z ≡ true
    then_transitive x y z h g =
        elim (then_cases x y h) [
          | inl a ↦ elim (then_cases y z g) [ inl b ↦ then_first x z (o.transitive (key x) (key y) (key z) a b) | inr b ↦ then_first x z (subst (λ k. lt (key x) k ≡ true) b.0 a) ]
          | inr a ↦ elim (then_cases y z g) [
            | inl b ↦ then_first x z (subst (λ k. lt k (key z) ≡ true) (sym a.0) b)
            | inr b ↦ then_later x z (a.0 ∙ b.0) (l.transitive x y z a.1 b.1)
          ]
        ]

    then_ties : (x y : X) → key_then x y ≡ false → key_then y x ≡ false → (key x ≡ key y) × Same x y
    then_ties x y h g =
        let a = or_parts (lt (key x) (key y)) (eq (key x) (key y) && less x y) h in
        let b = or_parts (lt (key y) (key x)) (eq (key y) (key x) && less y x) g in
        let e : key x ≡ key y = o.ties (key x) (key y) a.0 b.0 in
        let below : less x y ≡ false = elim (and_cases (eq (key x) (key y)) (less x y) a.1) [ inl n ↦ absurd (both_ways (eq (key x) (key y)) n ((decides (key x) (key y)).1 e)) | inr n ↦ n ] in
        let above : less y x ≡ false = elim (and_cases (eq (key y) (key x)) (less y x) b.1) [ inl n ↦ absurd (both_ways (eq (key y) (key x)) n ((decides (key y) (key x)).1 (sym e))) | inr n ↦ n ] in
        (e, l.ties x y below above)

    pub then_strict : IsStrictUpTo key_then (λ x y. (key x ≡ key y) × Same x y)
    then_strict = record {
      irreflexive = λ x. or_from (lt (key x) (key x)) (eq (key x) (key x) && less x x) (o.irreflexive (key x)) (and_right (eq (key x) (key x)) (less x x) (l.irreflexive x));
      transitive = then_transitive;
      ties = then_ties;
    }
