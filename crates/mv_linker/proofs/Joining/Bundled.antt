-- Where the modules of a bundle stand once it joins.
use Rattle.mv_linker.proofs.Common.{[], ℕ, ◌==◌, ◌∙◌, ◌∷◌, ◌≡◌, List, Module, None, Option, Some, all_differ, ap, arith, both_ways, cond, eq-eqb, eqb-true, false, false_from_ne_true}
use Rattle.mv_linker.proofs.Common.{find_index, get_or, have_one_name, inl, inr, length, ne_eqb, none-some, place_for, places_in, position, refl, same_Some, slice_get}
use Rattle.mv_linker.proofs.Common.{slice_get-get_or, slice_get_within, suc, sym, true, unwrap_or, with_table, with_tables, zero}
use Rattle.std.proofs.lemmas.List.Quantifiers.{position-Some}
use Rattle.mv_linker.proofs.Lemmas.{Among, found_at}
use Rattle.mv_bound_rules.proofs.Found.{any_found, position-find_index}
use Rattle.mv_linker.proofs.Members.{first_differs, rest_differ, turned}
use Rattle.mv_linker.proofs.Joining.Scopes.{get-with_table, kept-there, newest_at}
use Rattle.std.proofs.lemmas.Map.Keys.{any_passes_from_place}

-- a module of another name takes another place
other-place : (ms : List Module) (n x : Module) (p : ℕ) → slice_get ms p ≡ Some x → have_one_name n x ≡ false → (place_for ms n == p) ≡ false
other-place ms n x p at apart = by_place (find_index (have_one_name n) ms) refl
  where
    by_place : (o : Option ℕ) → find_index (have_one_name n) ms ≡ o → (unwrap_or o (length ms) == p) ≡ false
    by_place None e = ne_eqb (length ms) p (λ same. omega (arith, same, slice_get_within ms p x at))
    by_place (Some k) e = ne_eqb k p (λ same.
        let f = found_at (have_one_name n) ms k e in
        let one : f.entry ≡ x = same_Some f.entry x (sym f.at ∙ ap (slice_get ms) same ∙ at) in
        both_ways (have_one_name n x) apart (sym (ap (have_one_name n) one) ∙ f.passes))

-- a module stays at its place where none of a bundle has its name
stays-at : (ms ns : List Module) (x : Module) (p : ℕ) → slice_get ms p ≡ Some x → ((n : Module) → Among ns n → have_one_name n x ≡ false) → slice_get (with_tables ms ns) p ≡ Some x
stays-at ms [] x p at apart = at
stays-at ms (n ∷ ns) x p at apart =
    stays-at (with_table ms n) ns x p
    (get-with_table ms n p ∙ ap (λ b. cond b (Some n) (slice_get ms p)) (other-place ms n x p at (apart n (inl refl))) ∙ at)
    (λ m a. apart m (inr a))

-- a module of the bundle stands at its place
pub bundle-at : (old ns : List Module) (k p : ℕ) (n : Module) → all_differ have_one_name ns ≡ true → slice_get ns k ≡ Some n → slice_get (places_in old ns) k ≡ Some p
    → slice_get (with_tables old ns) p ≡ Some n
bundle-at old [] k p n apart at placed = absurd (none-some n at)
bundle-at old (m ∷ ns) zero p n apart at placed =
    let own = place_for old m in
    let here : slice_get (with_table old m) own ≡ Some m = get-with_table old m own ∙ ap (λ b. cond b (Some m) (slice_get old own)) (eq-eqb own own refl) in
    ap (slice_get (with_tables (with_table old m) ns)) (sym (same_Some own p placed))
    ∙ stays-at (with_table old m) ns m own here (λ x a. turned m x (first_differs m ns apart x a)) ∙ at
bundle-at old (m ∷ ns) (suc k) p n apart at placed = bundle-at (with_table old m) ns k p n (rest_differ m ns apart) at placed

-- where no place passes, none is the one asked for
none-placed : (q : ℕ) (places : List ℕ) → position (λ p. p == q) places ≡ None → (k p : ℕ) → slice_get places k ≡ Some p → (p == q) ≡ false
none-placed q places none k p at = false_from_ne_true (p == q) (λ is.
    let some = any_found (λ p. p == q) places (any_passes_from_place (λ p. p == q) places k p at is) in
    none-some some.0 (sym none ∙ position-find_index (λ p. p == q) places ∙ some.1))

none-newest : (q : ℕ) (ns : List Module) (places : List ℕ) → ((k p : ℕ) → slice_get places k ≡ Some p → (p == q) ≡ false) → newest_at q ns places None ≡ None
none-newest q [] places far = refl
none-newest q (n ∷ ns) [] far = refl
none-newest q (n ∷ ns) (p ∷ places) far =
    ap (λ b. newest_at q ns places (cond b (Some n) None)) (far 0 p refl) ∙ none-newest q ns places (λ k x e. far (suc k) x e)

-- where none of the bundle is to stand, none is the newest
pub no-newest : (old ns : List Module) (q : ℕ) → position (λ p. p == q) (places_in old ns) ≡ None → newest_at q ns (places_in old ns) None ≡ None
no-newest old ns q none = none-newest q ns (places_in old ns) (none-placed q (places_in old ns) none)

-- where none of the bundle is to stand, the old module does
pub old-at : (old ns : List Module) (q : ℕ) → position (λ p. p == q) (places_in old ns) ≡ None → slice_get (with_tables old ns) q ≡ slice_get old q
old-at old ns q none = kept-there old ns q (no-newest old ns q none)

-- a place that was looked for is there
pub place-at : (q k : ℕ) (places : List ℕ) → position (λ p. p == q) places ≡ Some k → slice_get places k ≡ Some q
place-at q k places e =
    let f = position-Some (λ p. p == q) places k 0 e in
    slice_get-get_or places k 0 f.0 ∙ ap (λ p. Some p) (eqb-true (get_or places k 0) q f.1)
