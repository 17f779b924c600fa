-- What is told of the changes is the difference of what was committed and what is.
use Rattle.mv_storage.proofs.Common.{[], ℕ, ⊎_elim, ◌++◌, ◌==◌, ◌∙◌, ◌∷◌, ◌≡◌, ◌≤◌, ◌||◌, Bool, List, None, Option, Some, ap, arith, false, length, refl, slice_get, suc, sym, take, true, IsOrdered, get}
use Rattle.mv_storage.proofs.Common.{is_at, lookup, is_eq, Less, Key, FlatEntry, key_cmp, same_key, words_under, Ascends, value_at, nat_tests, Places, Committed}
use Rattle.std.proofs.Common.{append_assoc, drop}
use Rattle.std.specs.Prelude.{All, map}
use Rattle.std.specs.BTreeMap.{BTreeMap}
use Rattle.std.specs.List.{AllByRecursion}
use Rattle.std.specs.List.Sorted.{IsStrictlySortedBy}
use Rattle.std.specs.Map.{keys_of}
use Rattle.std.specs.Option.{option_map_or}
use Rattle.std.proofs.lemmas.Bool.{and_parts, cases_Bool}
use Rattle.std.proofs.lemmas.List.Elements.{All-head, All-tail}
use Rattle.std.proofs.lemmas.List.{take-append-drop, length-append, length-take}
use Rattle.std.proofs.lemmas.Map.Keys.{sorted_head, sorted_tail}
use Rattle.std.proofs.lemmas.Map.Views.{All-found}
use Rattle.mv_undo.specs.Undo.{undone}
use Rattle.mv_storage.specs.Blocks.{back, value_before}
use Rattle.mv_storage.specs.Difference.{Change, same_list, same_words, before_at, first_at, told_of, told, tells_of, IsTold, IsDifference}
use Rattle.mv_storage.specs.declared.blocks.Undone.{Undone}
use Rattle.mv_storage.proofs.Keys.{key_cmp_total, same_key-is, same_key-symm, same_key-to}
use Rattle.mv_storage.proofs.Shown.{shown_of, words_under-shown}
use Rattle.mv_storage.proofs.Undoing.{words_under-with_value, Ascends-with_value}

-- ---- the oldest change of a key

Ascends-undone : (us : List Undone) (h : List FlatEntry) → Ascends h → Ascends (undone back us h)
Ascends-undone [] h s = s
Ascends-undone (u ∷ us) h s = Ascends-with_value (undone back us h) u.key (value_before u.before) (Ascends-undone us h s)

read-behind : (pre us : List Undone) (u : Undone) → slice_get (pre ++ u ∷ us) (length pre) ≡ Some u
read-behind [] us u = refl
read-behind (x ∷ xs) us u = read-behind xs us u

-- what was committed under a key is what its oldest change says, or otherwise what is
words_under-undone : (pre us : List Undone) (h : List FlatEntry) (q : Key) → Ascends h
    → words_under (undone back us h) q ≡ option_map_or (before_at (pre ++ us)) (first_at (length pre) us q) (words_under h q)
words_under-undone pre [] h q s = refl
words_under-undone pre (u ∷ us) h q s =
    let all : (pre ++ u ∷ []) ++ us ≡ pre ++ u ∷ us = append_assoc pre (u ∷ []) us in
    let count : length (pre ++ u ∷ []) ≡ suc (length pre) = omega (arith, length-append pre (u ∷ [])) in
    let rest : words_under (undone back us h) q ≡ option_map_or (before_at (pre ++ u ∷ us)) (first_at (suc (length pre)) us q) (words_under h q) =
    words_under-undone (pre ++ u ∷ []) us h q s
    ∙ ap (λ xs. option_map_or (before_at xs) (first_at (length (pre ++ u ∷ [])) us q) (words_under h q)) all
    ∙ ap (λ n. option_map_or (before_at (pre ++ u ∷ us)) (first_at n us q) (words_under h q)) count in
    words_under-with_value (undone back us h) u.key (value_before u.before) q (Ascends-undone us h s)
    ∙ ⊎_elim
    (λ (t : same_key u.key q ≡ true). let here : before_at (pre ++ u ∷ us) (length pre) ≡ value_before u.before = rw (read-behind pre us u) refl in rw t (sym here))
    (λ (f : same_key u.key q ≡ false). rw f rest)
    (cases_Bool (same_key u.key q))

-- ---- the same words

eq-to : (x y : ℕ) → (x == y) ≡ true → x ≡ y
eq-to x y e = grind (arith, nat_tests)

list-is : (xs ys : List ℕ) → same_list xs ys ≡ true → xs ≡ ys
list-is [] [] e = refl
list-is [] (y ∷ ys) e = cc
list-is (x ∷ xs) [] e = cc
list-is (x ∷ xs) (y ∷ ys) e =
    let both = and_parts (x == y) (same_list xs ys) e in
    let first : x ≡ y = eq-to x y both.0 in
    let rest : xs ≡ ys = list-is xs ys both.1 in
    cc

same_is : (x y : Option (List ℕ)) → same_words x y ≡ true → x ≡ y
same_is None None e = refl
same_is None (Some y) e = cc
same_is (Some x) None e = cc
same_is (Some x) (Some y) e = ap Some (list-is x y e)

-- ---- each that is told

all-append : {X : Type 0} (P : X → Type 0) (xs ys : List X) → AllByRecursion P xs → AllByRecursion P ys → AllByRecursion P (xs ++ ys)
all-append P [] ys a b = b
all-append P (x ∷ xs) ys a b = (a.0, all-append P xs ys a.1 b)

told_of-told : (old new : List FlatEntry) (key : Key) (b v : Option (List ℕ)) → b ≡ words_under old key → v ≡ words_under new key → AllByRecursion (IsTold old new) (told_of key b v)
told_of-told old new key b v e f =
    ⊎_elim
    (λ (t : same_words b v ≡ true). rw t tt)
    (λ (d : same_words b v ≡ false). rw d (record { before = e; now = f; differ = d }, tt))
    (cases_Bool (same_words b v))

told-each : (us : List Undone) (p : Places) (old new : List FlatEntry) (es : List (Key × ℕ)) → ((q : Key) → value_at Committed p q ≡ words_under new q)
    → AllByRecursion (λ e. before_at us e.1 ≡ words_under old e.0) es → AllByRecursion (IsTold old new) (told us p es)
told-each us p old new [] v a = tt
told-each us p old new (e ∷ es) v a =
    all-append (IsTold old new) (told_of e.0 (before_at us e.1) (value_at Committed p e.0)) (told us p es)
    (told_of-told old new e.0 (before_at us e.1) (value_at Committed p e.0) a.0 (v e.0)) (told-each us p old new es v a.1)

-- ---- in order

told-after : (us : List Undone) (p : Places) (low : Key) (es : List (Key × ℕ)) → AllByRecursion (λ k. key_cmp low k ≡ Less) (keys_of es)
    → AllByRecursion (λ k. key_cmp low k ≡ Less) (map (λ c. c.key) (told us p es))
told-after us p low [] a = tt
told-after us p low (e ∷ es) a =
    ⊎_elim
    (λ (t : same_words (before_at us e.1) (value_at Committed p e.0) ≡ true). rw t (told-after us p low es a.1))
    (λ (f : same_words (before_at us e.1) (value_at Committed p e.0) ≡ false). rw f (a.0, told-after us p low es a.1))
    (cases_Bool (same_words (before_at us e.1) (value_at Committed p e.0)))

sorted_cons : (k : Key) (ks : List Key) → AllByRecursion (λ y. key_cmp k y ≡ Less) ks → IsStrictlySortedBy key_cmp ks → IsStrictlySortedBy key_cmp (k ∷ ks)
unfolding IsStrictlySortedBy
sorted_cons k ks a s = (a, s)

sorted_none : IsStrictlySortedBy key_cmp []
unfolding IsStrictlySortedBy
sorted_none = tt

told-ascend : (us : List Undone) (p : Places) (es : List (Key × ℕ)) → IsStrictlySortedBy key_cmp (keys_of es) → IsStrictlySortedBy key_cmp (map (λ c. c.key) (told us p es))
told-ascend us p [] s = sorted_none
told-ascend us p (e ∷ es) s =
    let rest = told-ascend us p es (sorted_tail key_cmp e.0 (keys_of es) s) in
    ⊎_elim
    (λ (t : same_words (before_at us e.1) (value_at Committed p e.0) ≡ true). rw t rest)
    (λ (f : same_words (before_at us e.1) (value_at Committed p e.0) ≡ false). rw f (
    sorted_cons e.0 (map (λ c. c.key) (told us p es)) (told-after us p e.0 es (sorted_head key_cmp e.0 (keys_of es) s)) rest))
    (cases_Bool (same_words (before_at us e.1) (value_at Committed p e.0)))

-- ---- none besides

tells-append : (q : Key) (cs ds : List Change) → tells_of q (cs ++ ds) ≡ (tells_of q cs || tells_of q ds)
tells-append q [] ds = refl
tells-append q (c ∷ cs) ds =
    ⊎_elim
    (λ (t : same_key c.key q ≡ true). rw t refl)
    (λ (f : same_key c.key q ≡ false). rw f (tells-append q cs ds))
    (cases_Bool (same_key c.key q))

or-none : (a b : Bool) → (a || b) ≡ false → (a ≡ false) × (b ≡ false)
or-none true b e = (e, absurd (let no : ⊥ = cc in no))
or-none false b e = (refl, e)

tells-one : (key q : Key) (b v : Option (List ℕ)) → same_key key q ≡ true → tells_of q (told_of key b v) ≡ false → same_words b v ≡ true
tells-one key q b v at e =
    ⊎_elim
    (λ (t : same_words b v ≡ true). t)
    (λ (f : same_words b v ≡ false). let no : tells_of q (told_of key b v) ≡ true = rw (f, at) refl in cc)
    (cases_Bool (same_words b v))

-- a key of which nothing is told has what it had
untold : (us : List Undone) (p : Places) (es : List (Key × ℕ)) (q : Key) (place : ℕ) → lookup (is_at (key_cmp q)) es ≡ Some place → tells_of q (told us p es) ≡ false
    → same_words (before_at us place) (value_at Committed p q) ≡ true
untold us p [] q place e n = cc
untold us p (x ∷ xs) q place e n =
    let parts = or-none (tells_of q (told_of x.0 (before_at us x.1) (value_at Committed p x.0))) (tells_of q (told us p xs)) (sym (tells-append q (told_of x.0 (before_at us x.1) (value_at Committed p x.0)) (told us p xs)) ∙ n) in
    ⊎_elim
    (λ (here : same_key x.0 q ≡ true).
    let at : is_eq (key_cmp q x.0) ≡ true = sym (same_key-is q x.0) ∙ same_key-symm q x.0 ∙ here in
    let found : Some x.1 ≡ Some place = sym (rw at refl) ∙ e in
    let had : x.1 ≡ place = cc in
    let one : same_words (before_at us x.1) (value_at Committed p x.0) ≡ true = tells-one x.0 q (before_at us x.1) (value_at Committed p x.0) here parts.0 in
    ap (λ k. same_words (before_at us place) (value_at Committed p k)) (sym (same_key-to x.0 q here)) ∙ ap (λ y. same_words (before_at us y) (value_at Committed p x.0)) (sym had) ∙ one)
    (λ (off : same_key x.0 q ≡ false).
    let past : is_eq (key_cmp q x.0) ≡ false = sym (same_key-is q x.0) ∙ same_key-symm q x.0 ∙ off in
    untold us p xs q place (sym (rw past refl) ∙ e) parts.1)
    (cases_Bool (same_key x.0 q))

-- ---- the difference

by-recursion : {X : Type 0} (P : X → Type 0) (xs : List X) → All P xs → AllByRecursion P xs
by-recursion P [] a = tt
by-recursion P (x ∷ xs) a = (All-head P x xs a, by-recursion P xs (All-tail P x xs a))

module _ (us : List Undone) (mark : ℕ) (within : mark ≤ length us) (p : Places) (ordered : IsOrdered key_cmp p.tree) (firsts : BTreeMap Key ℕ) (o : IsOrdered key_cmp firsts)
    (h : (q : Key) → get key_cmp firsts q ≡ first_at mark (drop mark us) q) (ascends : Ascends (shown_of Committed p)) where
  reads : (q : Key) → value_at Committed p q ≡ words_under (shown_of Committed p) q
  reads q = sym (words_under-shown Committed p q ordered)

  had : (q : Key) → words_under (undone back (drop mark us) (shown_of Committed p)) q ≡ option_map_or (before_at us) (get key_cmp firsts q) (words_under (shown_of Committed p) q)
  had q =
      let count : length (take mark us) ≡ mark = omega (arith, length-take mark us, within) in
      words_under-undone (take mark us) (drop mark us) (shown_of Committed p) q ascends
      ∙ ap (λ xs. option_map_or (before_at xs) (first_at (length (take mark us)) (drop mark us) q) (words_under (shown_of Committed p) q)) (take-append-drop mark us)
      ∙ ap (λ n. option_map_or (before_at us) (first_at n (drop mark us) q) (words_under (shown_of Committed p) q)) count
      ∙ ap (λ x. option_map_or (before_at us) x (words_under (shown_of Committed p) q)) (sym (h q))

  each : (es : List (Key × ℕ)) → AllByRecursion (λ e. get key_cmp firsts e.0 ≡ Some e.1) es → AllByRecursion (λ e. before_at us e.1 ≡ words_under (undone back (drop mark us) (shown_of Committed p)) e.0) es
  each [] a = tt
  each (e ∷ es) a = (sym (had e.0 ∙ ap (λ x. option_map_or (before_at us) x (words_under (shown_of Committed p) e.0)) a.0), each es a.1)

  others : (q : Key) (x : Option ℕ) → get key_cmp firsts q ≡ x → tells_of q (told us p firsts.entries) ≡ false
      → words_under (shown_of Committed p) q ≡ words_under (undone back (drop mark us) (shown_of Committed p)) q
  others q None e n = sym (had q ∙ ap (λ x. option_map_or (before_at us) x (words_under (shown_of Committed p) q)) e)
  others q (Some place) e n =
      sym (had q ∙ ap (λ x. option_map_or (before_at us) x (words_under (shown_of Committed p) q)) e ∙ same_is (before_at us place) (value_at Committed p q) (untold us p firsts.entries q place e n) ∙ reads q)

  pub told-difference : IsDifference (undone back (drop mark us) (shown_of Committed p)) (shown_of Committed p) (told us p firsts.entries)
  told-difference = record {
    ascend = told-ascend us p firsts.entries o;
    each = told-each us p (undone back (drop mark us) (shown_of Committed p)) (shown_of Committed p) firsts.entries reads
        (each firsts.entries (by-recursion (λ e. get key_cmp firsts e.0 ≡ Some e.1) firsts.entries (All-found key_cmp_total firsts o)));
    others = λ q n. others q (get key_cmp firsts q) refl n;
  }
