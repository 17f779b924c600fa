-- Lists with the same elements, told by the sums over them, and what is taken out of them.
use Rattle.mv_binary_format.proofs.Common.{[], ℕ, ◌+◌, ◌∙◌, ◌∷◌, ◌≡◌, Bool, List, None, Option, Some, ap, arith, false, inl, inr, length, not, refl, suc, sym, true, and_from, and_parts}
use Rattle.mv_binary_format.proofs.Common.{cases_Bool, IsPermutation-cons, IsPermutation-refl, IsPermutation-trans, sum_by-IsPermutation, sum_by-cons, none-some, same_Some, find, list_all}
use Rattle.mv_binary_format.proofs.Common.{sum_by, IsPermutation, without}
use Rattle.std.proofs.lemmas.List.Sorted.{IsPermutation-middle}
use Rattle.std.proofs.lemmas.Bool.{not-true, both_ways, true_from_ne_false}

-- the elements of one list are those of the other, in some order
pub record SameSums {A : Type 0} (xs ys : List A) : Type 0 where
  pub same : (f : A → ℕ) → sum_by f xs ≡ sum_by f ys

pub SameSums-from_permutation : {A : Type 0} (xs ys : List A) → IsPermutation xs ys → SameSums xs ys
SameSums-from_permutation xs ys p = record { same = λ f. sym (sum_by-IsPermutation f xs ys p) }

-- the first that passes, before the others
pub permutation-without : {A : Type 0} (p : A → Bool) (xs : List A) (x : A) → find p xs ≡ Some x → IsPermutation xs (x ∷ without p xs)
permutation-without p [] x e = absurd (none-some x e)
permutation-without p (y ∷ ys) x e =
    elim (cases_Bool (p y)) [
      | inl h ↦
          let s : y ≡ x = same_Some y x (rw h at e) in
          rw (h, s) (IsPermutation-refl (x ∷ ys))
      | inr h ↦
          let s : find p ys ≡ Some x = rw h at e in
          rw h (IsPermutation-trans (y ∷ ys) (y ∷ x ∷ without p ys) (x ∷ y ∷ without p ys)
          (IsPermutation-cons y ys (x ∷ without p ys) (permutation-without p ys x s)) (IsPermutation-middle (y ∷ []) x (without p ys)))
    ]

-- what passes a test, and what is found by another
pub found-passes : {A : Type 0} (p : A → Bool) (xs : List A) (x : A) → find p xs ≡ Some x → p x ≡ true
found-passes p [] x e = absurd (none-some x e)
found-passes p (y ∷ ys) x e =
    elim (cases_Bool (p y)) [
      | inl h ↦ rw (same_Some y x (rw h at e)) at h
      | inr h ↦ found-passes p ys x (rw h at e)
    ]

pub found-in_all : {A : Type 0} (q p : A → Bool) (xs : List A) (x : A) → list_all q xs ≡ true → find p xs ≡ Some x → q x ≡ true
found-in_all q p [] x all e = absurd (none-some x e)
found-in_all q p (y ∷ ys) x all e =
    let parts = and_parts (q y) (list_all q ys) all in
    elim (cases_Bool (p y)) [
      | inl h ↦ rw (same_Some y x (rw h at e)) at parts.0
      | inr h ↦ found-in_all q p ys x parts.1 (rw h at e)
    ]

pub others-in_all : {A : Type 0} (q p : A → Bool) (xs : List A) → list_all q xs ≡ true → list_all q (without p xs) ≡ true
others-in_all q p [] all = refl
others-in_all q p (y ∷ ys) all =
    let parts = and_parts (q y) (list_all q ys) all in
    elim (cases_Bool (p y)) [
      | inl h ↦ rw h parts.1
      | inr h ↦ rw h (and_from (q y) (list_all q (without p ys)) parts.0 (others-in_all q p ys parts.1))
    ]

-- one for each that passes
abbrev pub mark : Bool → ℕ
mark true = 1
mark false = 0

-- one for each that does not
abbrev pub miss : Bool → ℕ
miss true = 0
miss false = 1

sum-none : {A : Type 0} (p : A → Bool) (xs : List A) → find p xs ≡ None → sum_by (λ x. mark (p x)) xs ≡ 0
sum-none p [] e = refl
sum-none p (x ∷ xs) e =
    elim (cases_Bool (p x)) [
      | inl h ↦ absurd (none-some x (sym (rw h at e)))
      | inr h ↦
          let m : mark (p x) ≡ 0 = ap mark h in
          let s : sum_by (λ x. mark (p x)) xs ≡ 0 = sum-none p xs (rw h at e) in
          omega (arith, sum_by-cons (λ x. mark (p x)) x xs)
    ]

sum-misses : {A : Type 0} (q : A → Bool) (xs : List A) → list_all q xs ≡ true → sum_by (λ x. miss (q x)) xs ≡ 0
sum-misses q [] e = refl
sum-misses q (x ∷ xs) e =
    let parts = and_parts (q x) (list_all q xs) e in
    let m : miss (q x) ≡ 0 = ap miss parts.0 in
    let s : sum_by (λ x. miss (q x)) xs ≡ 0 = sum-misses q xs parts.1 in
    omega (arith, sum_by-cons (λ x. miss (q x)) x xs)

all-no_miss : {A : Type 0} (q : A → Bool) (xs : List A) → sum_by (λ x. miss (q x)) xs ≡ 0 → list_all q xs ≡ true
all-no_miss q [] e = refl
all-no_miss q (x ∷ xs) e =
    let c = sum_by-cons (λ x. miss (q x)) x xs in
    elim (cases_Bool (q x)) [
      | inl h ↦
          let s : sum_by (λ x. miss (q x)) xs ≡ 0 = omega (arith, c) in
          and_from (q x) (list_all q xs) h (all-no_miss q xs s)
      | inr h ↦
          let m : miss (q x) ≡ 1 = ap miss h in
          absurd (omega (arith, c))
    ]

-- a test that all of one list pass, all of the other do
pub all-SameSums : {A : Type 0} (q : A → Bool) (xs ys : List A) → SameSums xs ys → list_all q ys ≡ true → list_all q xs ≡ true
all-SameSums q xs ys s all = all-no_miss q xs (s.same (λ x. miss (q x)) ∙ sum-misses q ys all)

sum-ones : {A : Type 0} (xs : List A) → sum_by (λ x. 1) xs ≡ length xs
sum-ones [] = refl
sum-ones (x ∷ xs) =
    let h : sum_by (λ x. 1) xs ≡ length xs = sum-ones xs in
    omega (arith, sum_by-cons (λ x. 1) x xs)

pub length-SameSums : {A : Type 0} (xs ys : List A) → SameSums xs ys → length xs ≡ length ys
length-SameSums xs ys s = sym (sum-ones xs) ∙ s.same (λ x. 1) ∙ sum-ones ys

pub sum-without : {A : Type 0} (p : A → Bool) (f : A → ℕ) (xs : List A) (x : A) → find p xs ≡ Some x → sum_by f xs ≡ f x + sum_by f (without p xs)
sum-without p f xs x e = (SameSums-from_permutation xs (x ∷ without p xs) (permutation-without p xs x e)).same f ∙ sum_by-cons f x (without p xs)

-- whether a test tells elements apart
pub record Tells {A : Type 0} (eq : A → A → Bool) : Type 0 where
  pub one : (x y : A) → eq x y ≡ true → x ≡ y
  pub itself : (x : A) → eq x x ≡ true

sum-others : {A : Type 0} (eq : A → A → Bool) → Tells eq → (p : A → Bool) (z : A) (ys : List A) → p z ≡ true → list_all (λ y. not (p y)) ys ≡ true → sum_by (λ y. mark (eq z y)) ys ≡ 0
sum-others eq t p z [] h all = refl
sum-others eq t p z (y ∷ ys) h all =
    let parts = and_parts (not (p y)) (list_all (λ y. not (p y)) ys) all in
    let s : sum_by (λ y. mark (eq z y)) ys ≡ 0 = sum-others eq t p z ys h parts.1 in
    let c = sum_by-cons (λ y. mark (eq z y)) y ys in
    elim (cases_Bool (eq z y)) [
      | inl e ↦ absurd (both_ways (p y) (not-true (p y) parts.0) (rw (t.one z y e) at h))
      | inr e ↦
          let m : mark (eq z y) ≡ 0 = ap mark e in
          omega (arith, c)
    ]

-- the one element that passes is found, and the others are left
pub found-alone : {A : Type 0} (eq : A → A → Bool) → Tells eq → (p : A → Bool) (xs : List A) (x : A) (ys : List A) → SameSums xs (x ∷ ys) → p x ≡ true → list_all (λ y. not (p y)) ys ≡ true
    → (find p xs ≡ Some x) × SameSums (without p xs) ys
found-alone {A} eq t p xs x ys s h all = by_find (find p xs) refl where
  by_find : (o : Option A) → find p xs ≡ o → (find p xs ≡ Some x) × SameSums (without p xs) ys
  by_find None e =
      let a : sum_by (λ x. mark (p x)) xs ≡ 0 = sum-none p xs e in
      let b : sum_by (λ x. mark (p x)) xs ≡ sum_by (λ x. mark (p x)) (x ∷ ys) = s.same (λ x. mark (p x)) in
      let m : mark (p x) ≡ 1 = ap mark h in
      absurd (omega (arith, sum_by-cons (λ x. mark (p x)) x ys))
  by_find (Some z) e =
      let z_passes = found-passes p xs z e in
      let a = sum-without p (λ y. mark (eq z y)) xs z e in
      let m : mark (eq z z) ≡ 1 = ap mark (t.itself z) in
      let b : sum_by (λ y. mark (eq z y)) xs ≡ sum_by (λ y. mark (eq z y)) (x ∷ ys) = s.same (λ y. mark (eq z y)) in
      let c = sum_by-cons (λ y. mark (eq z y)) x ys in
      let d : sum_by (λ y. mark (eq z y)) ys ≡ 0 = sum-others eq t p z ys z_passes all in
      let n : eq z x ≡ false → ⊥ = λ no. (let k : mark (eq z x) ≡ 0 = ap mark no in omega (arith, a, c)) in
      let same : z ≡ x = t.one z x (true_from_ne_false (eq z x) n) in (
        e ∙ ap Some same,
        record {
          same = λ f.
              let g = sum-without p f xs z e in
              let i : sum_by f xs ≡ sum_by f (x ∷ ys) = s.same f in
              let j = sum_by-cons f x ys in
              let l : f z ≡ f x = ap f same in
              omega (arith, g, j);
        },
      )

-- where none of the other list passes, none is found
pub found-none : {A : Type 0} (p : A → Bool) (xs ys : List A) → SameSums xs ys → list_all (λ y. not (p y)) ys ≡ true → find p xs ≡ None
found-none {A} p xs ys s all = by_find (find p xs) refl where
  by_find : (o : Option A) → find p xs ≡ o → find p xs ≡ None
  by_find None e = e
  by_find (Some z) e = absurd (both_ways (p z) (not-true (p z) (found-in_all (λ y. not (p y)) p xs z (all-SameSums (λ y. not (p y)) xs ys s all) e)) (found-passes p xs z e))

-- no elements
pub empty-SameSums : {A : Type 0} (xs : List A) → SameSums xs [] → xs ≡ []
empty-SameSums [] s = refl
empty-SameSums (x ∷ xs) s = let l : suc (length xs) ≡ 0 = length-SameSums (x ∷ xs) [] s in absurd (omega arith)
