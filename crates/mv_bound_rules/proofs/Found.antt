-- Options one after the other, and entries of lists by their places: what a search finds, and what a filter keeps.
use Rattle.mv_bound_rules.proofs.Common.{◌++◌, ◌+◌, All, All-contains, Bor, IsItemAt, option_copied, slice_get_past, slice_get_read, slice_get_within, take_more}
use Rattle.mv_bound_rules.proofs.Common.{[], ℕ, ◌&&◌, ◌<◌, ◌>>=◌, ◌∙◌, ◌∷◌, ◌≡◌, ◌≤◌, Bool, IsSome, List, None, Option, Some, all_differ, ap, arith, both_ways}
use Rattle.mv_bound_rules.proofs.Common.{cases_Bool, cases_lt, cases_order, cond, false, filter, find_index, first_so, get_or, get_or_from_slice_get, inl, inr, length}
use Rattle.mv_bound_rules.proofs.Common.{list_all, list_any, none-some, not, not-true, option_map, option_map_or, or_cases, position, refl, same_Some, second_so, slice_get}
use Rattle.mv_bound_rules.proofs.Common.{slice_get-get_or, subst, suc, sym, take, true, unwrap_or, zero}
use Rattle.std.proofs.lemmas.List.Quantifiers.{position-Some}
use Rattle.mv_bound_rules.proofs.Entries.{at-Contains, element_at}
use Rattle.std.proofs.lemmas.Map.Keys.{any_passes_from_place}

-- ---- options one after the other

-- what follows a part that was found, regrouped; a map after such a part, and a map as one
pub bind_bind : {A B C : Type 0} (o : Option A) (f : A → Option B) (g : B → Option C) → ((o >>= f) >>= g) ≡ (o >>= λ x. f x >>= g)
bind_bind None f g = refl
bind_bind (Some x) f g = refl

pub map_bind : {A B C : Type 0} (o : Option A) (f : A → Option B) (g : B → C) → option_map g (o >>= f) ≡ (o >>= λ x. option_map g (f x))
map_bind None f g = refl
map_bind (Some x) f g = refl

pub map_as_bind : {A B : Type 0} (o : Option A) (g : A → B) → option_map g o ≡ (o >>= λ x. Some (g x))
map_as_bind None g = refl
map_as_bind (Some x) g = refl

-- what is made of a value, or else another one, by the map
pub map_or-is : {A B : Type 0} (o : Option A) (g : A → B) (d : B) → option_map_or g o d ≡ unwrap_or (option_map g o) d
map_or-is None g d = refl
map_or-is (Some x) g d = refl

-- two continuations that agree on what is there
pub same_bind : {A B : Type 0} (o : Option A) (f g : A → Option B) → ((x : A) → o ≡ Some x → f x ≡ g x) → (o >>= f) ≡ (o >>= g)
same_bind None f g same = refl
same_bind (Some x) f g same = same x refl

-- a value that is there and passes
pub passing : {A : Type 0} (p : A → Bool) (o : Option A) → option_map_or p o false ≡ true → (x : A) × (o ≡ Some x) × (p x ≡ true)
passing p None e = absurd cc
passing p (Some x) e = (x, refl, e)

-- a part that was found, and what follows
pub then_found : {A B : Type 0} (r : Option A) (f : A → Option B) (x : A) (o : Option B) → r ≡ Some x → f x ≡ o → (r >>= f) ≡ o
then_found r f x o e g = ap (λ s. s >>= f) e ∙ g

-- ---- entries and their places

-- nothing stands where the other list, which is as long, has nothing
pub past_from : {A B : Type 0} (xs : List A) (ys : List B) (k : ℕ) → length ys ≡ length xs → slice_get xs k ≡ None → length ys ≤ k
past_from xs ys k long none = elim (cases_lt k (length xs)) [ inl low ↦ (let x = element_at xs k low in absurd (none-some x.0 (sym none ∙ x.1))) | inr high ↦ omega (arith, high, long) ]

-- what is there
pub some-of : {A : Type 0} (o : Option A) → IsSome o → (x : A) × (o ≡ Some x)
some-of None e = absurd (both_ways false refl e)
some-of (Some x) e = (x, refl)

-- the first ones
pub slice_get-take : {A : Type 0} (xs : List A) (n k : ℕ) → k < n → slice_get (take n xs) k ≡ slice_get xs k
slice_get-take [] zero k h = refl
slice_get-take [] (suc n) k h = refl
slice_get-take (x ∷ xs) zero k h = absurd (omega (arith, h))
slice_get-take (x ∷ xs) (suc n) zero h = refl
slice_get-take (x ∷ xs) (suc n) (suc k) h = slice_get-take xs n k (omega (arith, h))

pub all_from : {A : Type 0} (p : A → Bool) (xs : List A) → ((k : ℕ) (x : A) → slice_get xs k ≡ Some x → p x ≡ true) → list_all p xs ≡ true
all_from p [] h = refl
all_from p (x ∷ xs) h = ap (λ b. b && list_all p xs) (h 0 x refl) ∙ all_from p xs (λ k y e. h (suc k) y e)

-- one that fails
pub some_fails : {A : Type 0} (p : A → Bool) (xs : List A) → list_all p xs ≡ false → (k : ℕ) × (x : A) × (slice_get xs k ≡ Some x) × (p x ≡ false)
some_fails p [] h = absurd (both_ways true h refl)
some_fails p (x ∷ xs) h = elim (cases_Bool (p x)) [
  | inl so ↦
      let rest = some_fails p xs (sym (ap (λ b. b && list_all p xs) so) ∙ h) in
      (suc rest.0, rest.1, rest.2, rest.3)
  | inr nay ↦ (0, x, refl, nay)
]

-- the first place where a test passes, by the map's word and by the modules'
pub position-find_index : {A : Type 0} (p : A → Bool) (xs : List A) → position p xs ≡ find_index p xs
position-find_index p [] = refl
position-find_index p (x ∷ xs) = let e = position-find_index p xs in grind (arith, e)

-- what a search found
pub record Found {A : Type 0} (p : A → Bool) (xs : List A) (k : ℕ) : Type 0 where
  pub entry : A
  pub at : slice_get xs k ≡ Some entry
  pub passes : p entry ≡ true

pub found_at : {A : Type 0} (p : A → Bool) (xs : List A) (k : ℕ) → find_index p xs ≡ Some k → Found p xs k
found_at p [] k e = absurd (none-some k e)
found_at p (y ∷ ys) k e =
    let f = position-Some p (y ∷ ys) k y (position-find_index p (y ∷ ys) ∙ e) in
    record { entry = get_or (y ∷ ys) k y; at = slice_get-get_or (y ∷ ys) k y f.0; passes = f.1 }

-- the entry that is found passes
pub found_passes : {A : Type 0} (p : A → Bool) (xs : List A) (k : ℕ) (x : A) → find_index p xs ≡ Some k → slice_get xs k ≡ Some x → p x ≡ true
found_passes p xs k x e g = let f = found_at p xs k e in subst (λ z. p z ≡ true) (same_Some f.entry x (sym f.at ∙ g)) f.passes

-- where some element passes, a first one is found
pub any_found : {A : Type 0} (p : A → Bool) (xs : List A) → list_any p xs ≡ true → (k : ℕ) × (find_index p xs ≡ Some k)
any_found p [] h = absurd cc
any_found p (x ∷ xs) h = elim (or_cases (p x) (list_any p xs) h) [ inl e ↦ (0, rw e refl) | inr e ↦ by_first (p x) (any_found p xs e) ]
  where
    by_first : (b : Bool) → (k : ℕ) × (find_index p xs ≡ Some k) → (k : ℕ) × (cond b (Some 0) (option_map suc (find_index p xs)) ≡ Some k)
    by_first true r = (0, refl)
    by_first false r = (suc r.0, rw r.1 refl)

-- none before it passes
pub found_first : {A : Type 0} (p : A → Bool) (xs : List A) (k : ℕ) → find_index p xs ≡ Some k → (j : ℕ) (y : A) → j < k → slice_get xs j ≡ Some y → p y ≡ true → ⊥
found_first p xs k e j y l at passes =
    both_ways (p y) (sym (ap p (get_or_from_slice_get xs j y y at)) ∙ (position-Some p xs k y (position-find_index p xs ∙ e)).2 j l) passes

-- the first that passes is at k, if it passes and none before does
pub find_first : {A : Type 0} (p : A → Bool) (xs : List A) (k : ℕ) (x : A) → slice_get xs k ≡ Some x → p x ≡ true → ((j : ℕ) (y : A) → j < k → slice_get xs j ≡ Some y → p y ≡ true → ⊥)
    → find_index p xs ≡ Some k
find_first p [] k x e h never = absurd (none-some x e)
find_first p (y ∷ ys) zero x e h never = grind arith
find_first p (y ∷ ys) (suc k) x e h never =
    let rest = find_first p ys k x e h (λ j z l g q. never (suc j) z (omega (arith, l)) g q) in
    let here : p y ≡ true → ⊥ = never 0 y (omega arith) refl in
    grind (arith, rest)

-- entries at different places differ
pub differ_at : {A : Type 0} (same : A → A → Bool) (xs : List A) (j k : ℕ) (x y : A) → all_differ same xs ≡ true → j < k → slice_get xs j ≡ Some x → slice_get xs k ≡ Some y → same x y ≡ true → ⊥
differ_at same [] j k x y h l e g q = none-some x e
differ_at same (z ∷ zs) j zero x y h l e g q = omega (arith, l)
differ_at same (z ∷ zs) zero (suc k) x y h l e g q =
    both_ways _ (not-true _ (first_so (not (list_any (same z) zs)) (all_differ same zs) h)) (any_passes_from_place (same z) zs k y g (subst (λ w. same w y ≡ true) (sym (same_Some z x e)) q))
differ_at same (z ∷ zs) (suc j) (suc k) x y h l e g q = differ_at same zs j k x y (second_so (not (list_any (same z) zs)) (all_differ same zs) h) (omega (arith, l)) e g q

-- entries that the test calls one are at one place
pub one_place : {A : Type 0} (same : A → A → Bool) (xs : List A) (j k : ℕ) (x y : A) → all_differ same xs ≡ true → slice_get xs j ≡ Some x → slice_get xs k ≡ Some y → same x y ≡ true → same y x ≡ true
    → j ≡ k
one_place same xs j k x y h e g q r =
    elim (cases_order j k) [ inl p ↦ p | inr (inl l) ↦ absurd (differ_at same xs j k x y h l e g q) | inr (inr l) ↦ absurd (differ_at same xs k j y x h l g e r) ]

-- an entry at some place
abbrev pub Somewhere : {A : Type 0} → List A → A → Type 0
Somewhere xs x = (k : ℕ) × (slice_get xs k ≡ Some x)

-- what a filter keeps
pub kept_at : {A : Type 0} (p : A → Bool) (xs : List A) (k : ℕ) (x : A) → slice_get xs k ≡ Some x → p x ≡ true → Somewhere (filter p xs) x
kept_at p [] k x e h = absurd (none-some x e)
kept_at p (y ∷ ys) zero x e h = (0, grind arith)
kept_at p (y ∷ ys) (suc k) x e h =
    let r = kept_at p ys k x e h in
    elim (p y) as (λ b. Somewhere (cond b (y ∷ filter p ys) (filter p ys)) x) [ true ↦ (suc r.0, r.1) | false ↦ r ]

pub record Kept {A : Type 0} (p : A → Bool) (xs : List A) (x : A) : Type 0 where
  pub passes : p x ≡ true
  pub place : ℕ
  pub at : slice_get xs place ≡ Some x

kept_back : {A : Type 0} (p : A → Bool) (y x : A) (ys kept : List A) (b : Bool) → p y ≡ b → ((i : ℕ) → slice_get kept i ≡ Some x → Kept p ys x) → (j : ℕ)
    → slice_get (cond b (y ∷ kept) kept) j ≡ Some x → Kept p (y ∷ ys) x
kept_back p y x ys kept true q rest zero e = record { passes = cc; place = 0; at = e }
kept_back p y x ys kept true q rest (suc j) e = (let r = rest j e in record { passes = r.passes; place = suc r.place; at = r.at })
kept_back p y x ys kept false q rest j e = (let r = rest j e in record { passes = r.passes; place = suc r.place; at = r.at })

pub kept_from : {A : Type 0} (p : A → Bool) (xs : List A) (j : ℕ) (x : A) → slice_get (filter p xs) j ≡ Some x → Kept p xs x
kept_from p [] j x e = absurd (none-some x e)
kept_from p (y ∷ ys) j x e = kept_back p y x ys (filter p ys) (p y) refl (λ i q. kept_from p ys i x q) j e

-- what holds of each holds at each place
pub at-all : {A : Type 0} (P : A → Type 0) (xs : List A) (k : ℕ) (x : A) → All P xs → slice_get xs k ≡ Some x → P x
at-all P xs k x all e = All-contains P xs x all (at-Contains xs k x e)

-- the first elements, and one more
pub taken-more : {A : Type 0} (xs : List A) (i : ℕ) (x : A) → slice_get xs i ≡ Some x → take (i + 1) xs ≡ take i xs ++ x ∷ []
taken-more xs i x at = take_more xs i x (slice_get_within xs i x at) ∙ ap (λ y. take i xs ++ y ∷ []) (get_or_from_slice_get xs i x x at)

-- an element that was asked for
pub got : {A : Type 0} (xs : List A) (i : ℕ) (r : Option (Bor A)) → IsItemAt xs i r → option_copied r ≡ slice_get xs i
got xs i None item = sym (slice_get_past xs i item.3)
got xs i (Some x) item = sym (slice_get_read xs (length xs) i x.now refl item.3.0 item.1)

-- and where it stands in the list that was read
pub got-at : {A : Type 0} (xs ys : List A) (i : ℕ) (x : Bor A) → ys ≡ xs → IsItemAt ys i (Some x) → slice_get xs i ≡ Some x.now
got-at xs ys i x same item = sym (ap (λ l. slice_get l i) same) ∙ sym (got ys i (Some x) item)
