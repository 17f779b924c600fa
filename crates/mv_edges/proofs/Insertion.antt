-- Insertion into ascending lists, for any strict order.
use Rattle.mv_edges.proofs.Common.{[], ℕ, ◌&&◌, ◌++◌, ◌+◌, ◌-◌, ◌<◌, ◌∙◌, ◌∷◌, ◌≡◌, ◌⊎◌, Bool, Contains, List, Some, ap, arith, cond, drop, false, filter, get_or, inl, inr, length, refl}
use Rattle.mv_edges.proofs.Common.{slice_get, subst, suc, sym, take, true, true≢false, zero, and_from, and_parts, cond-true, cond_both, false_from_ne_true, get_or_default}
use Rattle.mv_edges.proofs.Common.{Contains-append_cases, Contains-append_left, Contains-append_right, list_all}
use Rattle.std.proofs.lemmas.Bool.{cond-false}
use Rattle.std.proofs.Math.Bool.{and-true}

-- a strict total order
pub record IsStrictOrder {X : Type 0} (lt : X → X → Bool) : Type 0 where
  pub irreflexive : (x : X) → lt x x ≡ false
  pub transitive : (x y z : X) → lt x y ≡ true → lt y z ≡ true → lt x z ≡ true
  pub total : (x y : X) → lt x y ≡ false → lt y x ≡ false → x ≡ y

module _ {X : Type 0} where
  pub contains_here : (x : X) (xs : List X) → Contains (x ∷ xs) x
  contains_here x xs = (0, omega arith, refl)

  pub contains_there : (x : X) (xs : List X) (z : X) → Contains xs z → Contains (x ∷ xs) z
  contains_there x xs z c = let h = c.1 in (suc c.0, omega (arith, h), c.2)

  contains_at : (x : X) (xs : List X) (z : X) (k : ℕ) → k < length (x ∷ xs) → get_or (x ∷ xs) k z ≡ z → (x ≡ z) ⊎ Contains xs z
  contains_at x xs z zero h e = inl e
  contains_at x xs z (suc k) h e = inr (k, omega (arith, h), e)

  pub contains_cases : (x : X) (xs : List X) (z : X) → Contains (x ∷ xs) z → (x ≡ z) ⊎ Contains xs z
  contains_cases x xs z c = contains_at x xs z c.0 c.1 c.2

  pub contains_none : (z : X) → Contains [] z → ⊥
  contains_none z c = let h = c.1 in omega (arith, h)

  pub all_contains : (p : X → Bool) (xs : List X) (z : X) → list_all p xs ≡ true → Contains xs z → p z ≡ true
  all_contains p [] z h c = absurd (contains_none z c)
  all_contains p (x ∷ xs) z h c =
      let parts = and_parts (p x) (list_all p xs) h in
      elim (contains_cases x xs z c) [ inl e ↦ subst (λ y. p y ≡ true) e parts.0 | inr d ↦ all_contains p xs z parts.1 d ]

  pub all_from_contains : (p : X → Bool) (xs : List X) → ((z : X) → Contains xs z → p z ≡ true) → list_all p xs ≡ true
  all_from_contains p [] f = refl
  all_from_contains p (x ∷ xs) f = and_from (p x) (list_all p xs) (f x (contains_here x xs)) (all_from_contains p xs (λ z c. f z (contains_there x xs z c)))

  pub all_weaker : (p q : X → Bool) → ((x : X) → p x ≡ true → q x ≡ true) → (xs : List X) → list_all p xs ≡ true → list_all q xs ≡ true
  all_weaker p q f [] h = refl
  all_weaker p q f (x ∷ xs) h =
      let parts = and_parts (p x) (list_all p xs) h in
      and_from (q x) (list_all q xs) (f x parts.0) (all_weaker p q f xs parts.1)

  pub all_filter : (p q : X → Bool) (xs : List X) → list_all q xs ≡ true → list_all q (filter p xs) ≡ true
  all_filter p q [] h = refl
  all_filter p q (x ∷ xs) h =
      let parts = and_parts (q x) (list_all q xs) h in
      let rest = all_filter p q xs parts.1 in
      cond_both (p x) (x ∷ filter p xs) (filter p xs) (λ ys. list_all q ys ≡ true) (λ _. and_from (q x) (list_all q (filter p xs)) parts.0 rest) (λ _. rest)

  module _ (lt : X → X → Bool) where
    abbrev pub inserted_by : X → List X → List X
    inserted_by e [] = e ∷ []
    inserted_by e (x ∷ xs) = cond (lt e x) (e ∷ x ∷ xs) (cond (lt x e) (x ∷ inserted_by e xs) (x ∷ xs))

    abbrev pub sorted_by : List X → List X
    sorted_by [] = []
    sorted_by (x ∷ xs) = inserted_by x (sorted_by xs)

    abbrev pub ascend_by : List X → Bool
    ascend_by [] = true
    ascend_by (x ∷ []) = true
    ascend_by (x ∷ y ∷ ys) = lt x y && ascend_by (y ∷ ys)

    pub ascend_tail : (x : X) (xs : List X) → ascend_by (x ∷ xs) ≡ true → ascend_by xs ≡ true
    ascend_tail x [] h = refl
    ascend_tail x (y ∷ ys) h = (and_parts (lt x y) (ascend_by (y ∷ ys)) h).1

    pub ascend_cons : (x : X) (xs : List X) → list_all (lt x) xs ≡ true → ascend_by xs ≡ true → ascend_by (x ∷ xs) ≡ true
    ascend_cons x [] h a = refl
    ascend_cons x (y ∷ ys) h a = and_from (lt x y) (ascend_by (y ∷ ys)) (and_parts (lt x y) (list_all (lt x) ys) h).0 a

    module _ (o : IsStrictOrder lt) where
      pub asymmetric : (x y : X) → lt x y ≡ true → lt y x ≡ false
      asymmetric x y h = false_from_ne_true (lt y x) (λ g. true≢false (sym (o.transitive x y x h g) ∙ o.irreflexive x))

      pub all_above : (x : X) (xs : List X) → ascend_by (x ∷ xs) ≡ true → list_all (lt x) xs ≡ true
      all_above x [] h = refl
      all_above x (y ∷ ys) h =
          let parts = and_parts (lt x y) (ascend_by (y ∷ ys)) h in
          and_from (lt x y) (list_all (lt x) ys) parts.0 (all_weaker (lt y) (lt x) (λ z g. o.transitive x y z parts.0 g) ys (all_above y ys parts.1))

      -- the three ways of an insertion
      inserted_cases : (P : List X → Type 0) (e x : X) (xs : List X) → (lt e x ≡ true → P (e ∷ x ∷ xs)) → (lt x e ≡ true → P (x ∷ inserted_by e xs)) → (e ≡ x → P (x ∷ xs)) → P (inserted_by e (x ∷ xs))
      inserted_cases P e x xs first later same =
          cond_both (lt e x) (e ∷ x ∷ xs) (cond (lt x e) (x ∷ inserted_by e xs) (x ∷ xs)) P first
          (λ n. cond_both (lt x e) (x ∷ inserted_by e xs) (x ∷ xs) P later (λ m. same (o.total e x n m)))

      pub inserted-all : (p : X → Bool) (e : X) (xs : List X) → p e ≡ true → list_all p xs ≡ true → list_all p (inserted_by e xs) ≡ true
      inserted-all p e [] h a = and_from (p e) true h refl
      inserted-all p e (x ∷ xs) h a =
          let parts = and_parts (p x) (list_all p xs) a in
          inserted_cases (λ ys. list_all p ys ≡ true) e x xs (λ _. and_from (p e) (list_all p (x ∷ xs)) h a)
          (λ _. and_from (p x) (list_all p (inserted_by e xs)) parts.0 (inserted-all p e xs h parts.1)) (λ _. a)

      pub ascend-inserted : (e : X) (xs : List X) → ascend_by xs ≡ true → ascend_by (inserted_by e xs) ≡ true
      ascend-inserted e [] h = refl
      ascend-inserted e (x ∷ xs) h =
          inserted_cases (λ ys. ascend_by ys ≡ true) e x xs (λ b. and_from (lt e x) (ascend_by (x ∷ xs)) b h)
          (λ b. ascend_cons x (inserted_by e xs) (inserted-all (lt x) e xs b (all_above x xs h)) (ascend-inserted e xs (ascend_tail x xs h))) (λ _. h)

      pub contains-inserted : (e : X) (xs : List X) (z : X) → (e ≡ z) ⊎ Contains xs z → Contains (inserted_by e xs) z
      contains-inserted e [] z (inl h) = subst (λ y. Contains (e ∷ []) y) h (contains_here e [])
      contains-inserted e [] z (inr c) = absurd (contains_none z c)
      contains-inserted e (x ∷ xs) z (inl h) =
          inserted_cases (λ ys. Contains ys z) e x xs (λ _. subst (λ y. Contains (e ∷ x ∷ xs) y) h (contains_here e (x ∷ xs)))
          (λ _. contains_there x (inserted_by e xs) z (contains-inserted e xs z (inl h))) (λ s. subst (λ y. Contains (x ∷ xs) y) (sym s ∙ h) (contains_here x xs))
      contains-inserted e (x ∷ xs) z (inr c) =
          inserted_cases (λ ys. Contains ys z) e x xs (λ _. contains_there e (x ∷ xs) z c)
          (λ _. elim (contains_cases x xs z c) [
            | inl h ↦ subst (λ y. Contains (x ∷ inserted_by e xs) y) h (contains_here x (inserted_by e xs))
            | inr d ↦ contains_there x (inserted_by e xs) z (contains-inserted e xs z (inr d))
          ]) (λ _. c)

      pub contains_from_inserted : (e : X) (xs : List X) (z : X) → Contains (inserted_by e xs) z → (e ≡ z) ⊎ Contains xs z
      contains_from_inserted e [] z c = contains_cases e [] z c
      contains_from_inserted e (x ∷ xs) z c₀ =
          inserted_cases (λ ys. Contains ys z → (e ≡ z) ⊎ Contains (x ∷ xs) z) e x xs (λ _ c. contains_cases e (x ∷ xs) z c)
          (λ _ c. elim (contains_cases x (inserted_by e xs) z c) [
            | inl h ↦ inr (subst (λ y. Contains (x ∷ xs) y) h (contains_here x xs))
            | inr d ↦ elim (contains_from_inserted e xs z d) [ inl h ↦ inl h | inr k ↦ inr (contains_there x xs z k) ]
          ]) (λ _ c. inr c) c₀

      pub ascend-sorted : (xs : List X) → ascend_by (sorted_by xs) ≡ true
      ascend-sorted [] = refl
      ascend-sorted (x ∷ xs) = ascend-inserted x (sorted_by xs) (ascend-sorted xs)

      pub contains-sorted : (xs : List X) (z : X) → Contains xs z → Contains (sorted_by xs) z
      contains-sorted [] z c = c
      contains-sorted (x ∷ xs) z c =
          contains-inserted x (sorted_by xs) z (elim (contains_cases x xs z c) [ inl h ↦ inl h | inr d ↦ inr (contains-sorted xs z d) ])

      pub contains_from_sorted : (xs : List X) (z : X) → Contains (sorted_by xs) z → Contains xs z
      contains_from_sorted [] z c = c
      contains_from_sorted (x ∷ xs) z c =
          elim (contains_from_inserted x (sorted_by xs) z c) [
            | inl h ↦ subst (λ y. Contains (x ∷ xs) y) h (contains_here x xs)
            | inr d ↦ contains_there x xs z (contains_from_sorted xs z d)
          ]

      inserted_first : (x : X) (xs : List X) → list_all (lt x) xs ≡ true → inserted_by x xs ≡ x ∷ xs
      inserted_first x [] h = refl
      inserted_first x (y ∷ ys) h = cond-true (lt x y) (x ∷ y ∷ ys) (cond (lt y x) (y ∷ inserted_by x ys) (y ∷ ys)) (and_parts (lt x y) (list_all (lt x) ys) h).0

      -- what ascends is sorted
      pub sorted_same : (xs : List X) → ascend_by xs ≡ true → sorted_by xs ≡ xs
      sorted_same [] h = refl
      sorted_same (x ∷ xs) h = ap (inserted_by x) (sorted_same xs (ascend_tail x xs h)) ∙ inserted_first x xs (all_above x xs h)

      pub ascend-filter : (p : X → Bool) (xs : List X) → ascend_by xs ≡ true → ascend_by (filter p xs) ≡ true
      ascend-filter p [] h = refl
      ascend-filter p (x ∷ xs) h =
          let rest = ascend-filter p xs (ascend_tail x xs h) in
          cond_both (p x) (x ∷ filter p xs) (filter p xs) (λ ys. ascend_by ys ≡ true) (λ _. ascend_cons x (filter p xs) (all_filter p (lt x) xs (all_above x xs h)) rest) (λ _. rest)

      -- an element of one list is its head or below the other's head
      heads_same : (x : X) (xs : List X) (y : X) (ys : List X) → list_all (lt x) xs ≡ true → list_all (lt y) ys ≡ true → Contains (y ∷ ys) x → Contains (x ∷ xs) y → x ≡ y
      heads_same x xs y ys a b c d =
          elim (contains_cases y ys x c) [
            | inl h ↦ sym h
            | inr m ↦ elim (contains_cases x xs y d) [
              | inl h ↦ h
              | inr n ↦ absurd (true≢false (sym (all_contains (lt x) xs y a n) ∙ asymmetric y x (all_contains (lt y) ys x b m)))
            ]
          ]

      rest_has : (x : X) (xs ys : List X) → list_all (lt x) xs ≡ true → ((z : X) → Contains (x ∷ xs) z → Contains (x ∷ ys) z) → (z : X) → Contains xs z → Contains ys z
      rest_has x xs ys a f z c =
          elim (contains_cases x ys z (f z (contains_there x xs z c))) [
            | inl h ↦ absurd (true≢false (sym (subst (λ y. lt x y ≡ true) (sym h) (all_contains (lt x) xs z a c)) ∙ o.irreflexive x))
            | inr d ↦ d
          ]

      -- two ascending lists with the same elements are one
      pub same_lists_from_elements : (xs ys : List X) → ascend_by xs ≡ true → ascend_by ys ≡ true → ((z : X) → Contains xs z → Contains ys z) → ((z : X) → Contains ys z → Contains xs z) → xs ≡ ys
      same_lists_from_elements [] [] a b f g = refl
      same_lists_from_elements [] (y ∷ ys) a b f g = absurd (contains_none y (g y (contains_here y ys)))
      same_lists_from_elements (x ∷ xs) [] a b f g = absurd (contains_none x (f x (contains_here x xs)))
      same_lists_from_elements (x ∷ xs) (y ∷ ys) a b f g =
          let above_x = all_above x xs a in
          let above_y = all_above y ys b in
          let h : x ≡ y = heads_same x xs y ys above_x above_y (f x (contains_here x xs)) (g y (contains_here y ys)) in
          let f' : (z : X) → Contains (x ∷ xs) z → Contains (x ∷ ys) z = λ z c. subst (λ w. Contains (w ∷ ys) z) (sym h) (f z c) in
          let g' : (z : X) → Contains (y ∷ ys) z → Contains (y ∷ xs) z = λ z c. subst (λ w. Contains (w ∷ xs) z) h (g z c) in
          let rest : xs ≡ ys = same_lists_from_elements xs ys (ascend_tail x xs a) (ascend_tail y ys b) (rest_has x xs ys above_x f') (rest_has y ys xs above_y g') in
          ap (λ w. w ∷ xs) h ∙ ap (λ w. y ∷ w) rest

      -- a list with one more element at its end
      pub sorted-push : (xs : List X) (e : X) → ascend_by xs ≡ true → sorted_by (xs ++ e ∷ []) ≡ inserted_by e xs
      sorted-push xs e a =
          same_lists_from_elements (sorted_by (xs ++ e ∷ [])) (inserted_by e xs) (ascend-sorted (xs ++ e ∷ [])) (ascend-inserted e xs a)
          (λ z c. contains-inserted e xs z (elim (Contains-append_cases xs (e ∷ []) z (contains_from_sorted (xs ++ e ∷ []) z c)) [
            | inl d ↦ inr d
            | inr d ↦ elim (contains_cases e [] z d) [ inl h ↦ inl h | inr n ↦ absurd (contains_none z n) ]
          ]))
          (λ z c. contains-sorted (xs ++ e ∷ []) z (elim (contains_from_inserted e xs z c) [
            | inl h ↦ Contains-append_right xs (e ∷ []) z (subst (λ y. Contains (e ∷ []) y) h (contains_here e []))
            | inr d ↦ Contains-append_left xs (e ∷ []) z d
          ]))

      inserted_later : (e x : X) (xs : List X) → lt x e ≡ true → inserted_by e (x ∷ xs) ≡ x ∷ inserted_by e xs
      inserted_later e x xs h =
          cond-false (lt e x) (e ∷ x ∷ xs) (cond (lt x e) (x ∷ inserted_by e xs) (x ∷ xs)) (asymmetric x e h)
          ∙ cond-true (lt x e) (x ∷ inserted_by e xs) (x ∷ xs) h

      -- an element of an ascending list that is before another has all up to it before that one
      all_before_next : (xs : List X) (i : ℕ) (d t : X) → i < length xs → ascend_by xs ≡ true → lt (get_or xs i d) t ≡ true → list_all (λ x. lt x t) (take (suc i) xs) ≡ true
      all_before_next [] i d t h a b = absurd (omega (arith, h))
      all_before_next (x ∷ xs) zero d t h a b = and_from (lt x t) true b refl
      all_before_next (x ∷ xs) (suc i) d t h a b =
          let inside : i < length xs = omega (arith, h) in
          let below : lt x (get_or xs i d) ≡ true = all_contains (lt x) xs (get_or xs i d) (all_above x xs a) (i, inside, get_or_default xs i (get_or xs i d) d inside) in
          and_from (lt x t) (list_all (λ y. lt y t) (take (suc i) xs)) (o.transitive x (get_or xs i d) t below b) (all_before_next xs i d t inside (ascend_tail x xs a) b)

      pub all_before_at : (xs : List X) (i : ℕ) (d t : X) → i < length xs → ascend_by xs ≡ true → lt (get_or xs i d) t ≡ true → list_all (λ x. lt x t) (take (i + 1) xs) ≡ true
      all_before_at xs i d t h a b = let one : suc i ≡ i + 1 = omega arith in subst (λ n. list_all (λ x. lt x t) (take n xs) ≡ true) one (all_before_next xs i d t h a b)

      -- and one that another is before has it before all from there on
      pub all_after_at : (xs : List X) (i : ℕ) (d t : X) → i < length xs → ascend_by xs ≡ true → lt t (get_or xs i d) ≡ true → list_all (lt t) (drop i xs) ≡ true
      all_after_at [] i d t h a b = absurd (omega (arith, h))
      all_after_at (x ∷ xs) zero d t h a b = and_from (lt t x) (list_all (lt t) xs) b (all_weaker (lt x) (lt t) (λ z g. o.transitive t x z b g) xs (all_above x xs a))
      all_after_at (x ∷ xs) (suc i) d t h a b = all_after_at xs i d t (omega (arith, h)) (ascend_tail x xs a) b

      -- an element between those before it and those after it
      pub inserted_between : (e : X) (xs ys : List X) → list_all (λ x. lt x e) xs ≡ true → list_all (lt e) ys ≡ true → inserted_by e (xs ++ ys) ≡ xs ++ e ∷ ys
      inserted_between e [] ys h g = inserted_first e ys g
      inserted_between e (x ∷ xs) ys h g =
          let parts = and_parts (lt x e) (list_all (λ y. lt y e) xs) h in
          inserted_later e x (xs ++ ys) parts.0 ∙ ap (λ zs. x ∷ zs) (inserted_between e xs ys parts.1 g)

      -- what comes before all the others is the head
      pub sorted_cons : (whole : List X) (x : X) (rest : List X) → list_all (lt x) rest ≡ true → ((z : X) → Contains whole z → Contains (x ∷ rest) z)
          → ((z : X) → Contains (x ∷ rest) z → Contains whole z) → sorted_by whole ≡ x ∷ sorted_by rest
      sorted_cons whole x rest a f g =
          let above : list_all (lt x) (sorted_by rest) ≡ true = all_from_contains (lt x) (sorted_by rest) (λ z c. all_contains (lt x) rest z a (contains_from_sorted rest z c)) in
          same_lists_from_elements (sorted_by whole) (x ∷ sorted_by rest) (ascend-sorted whole) (ascend_cons x (sorted_by rest) above (ascend-sorted rest))
          (λ z c. elim (contains_cases x rest z (f z (contains_from_sorted whole z c))) [
            | inl h ↦ subst (λ y. Contains (x ∷ sorted_by rest) y) h (contains_here x (sorted_by rest))
            | inr d ↦ contains_there x (sorted_by rest) z (contains-sorted rest z d)
          ])
          (λ z c. contains-sorted whole z (g z (elim (contains_cases x (sorted_by rest) z c) [
            | inl h ↦ subst (λ y. Contains (x ∷ rest) y) h (contains_here x rest)
            | inr d ↦ contains_there x rest z (contains_from_sorted rest z d)
          ])))

      -- lists with the same elements are sorted alike
      pub sorted_alike : (xs ys : List X) → ((z : X) → Contains xs z → Contains ys z) → ((z : X) → Contains ys z → Contains xs z) → sorted_by xs ≡ sorted_by ys
      sorted_alike xs ys f g =
          same_lists_from_elements (sorted_by xs) (sorted_by ys) (ascend-sorted xs) (ascend-sorted ys)
          (λ z c. contains-sorted ys z (f z (contains_from_sorted xs z c))) (λ z c. contains-sorted xs z (g z (contains_from_sorted ys z c)))

    ascend-push_at : (xs : List X) (e l : X) (i : ℕ) → length xs ≡ suc i → slice_get xs i ≡ Some l → ascend_by xs ≡ true → ascend_by (xs ++ e ∷ []) ≡ lt l e
    ascend-push_at [] e l i h g a = cc
    ascend-push_at (x ∷ []) e l zero h g a = let same : x ≡ l = cc in and-true (lt x e) ∙ ap (λ y. lt y e) same
    ascend-push_at (x ∷ []) e l (suc i) h g a = cc
    ascend-push_at (x ∷ y ∷ ys) e l zero h g a = absurd (omega (arith, h))
    ascend-push_at (x ∷ y ∷ ys) e l (suc i) h g a =
        let parts = and_parts (lt x y) (ascend_by (y ∷ ys)) a in
        ap (λ b. b && ascend_by (y ∷ ys ++ e ∷ [])) parts.0 ∙ ascend-push_at (y ∷ ys) e l i (omega (arith, h)) g parts.1

    -- whether a list still ascends with one more element
    pub ascend-push_some : (xs : List X) (e l : X) → slice_get xs (length xs - 1) ≡ Some l → ascend_by xs ≡ true → ascend_by (xs ++ e ∷ []) ≡ lt l e
    ascend-push_some [] e l h a = cc
    ascend-push_some (x ∷ xs) e l h a = ascend-push_at (x ∷ xs) e l (length (x ∷ xs) - 1) (omega arith) h a
