-- Entries of a list, one after another.
use Rattle.mv_bound_rules.proofs.Common.{[], ℕ, ◌&&◌, ◌++◌, ◌+◌, ◌<◌, ◌∙◌, ◌∷◌, ◌≡◌, Bool, Bor, List, None, Some, ap, ap₂, arith, false, get_or, inl, inr, length, map, refl, sym, take, true, ltb-true}
use Rattle.mv_bound_rules.proofs.Common.{take_more, none-some, slice_get_read, slice_get_within, list_all, slice_get, Contains, suc, zero, subst, and_parts, same_Some, find_index, Option, cond, option_map}
use Rattle.std.specs.Slice.{IsItemAt}
use Rattle.std.proofs.lemmas.List.{map-append, get_or_append_left, get_or-append-add, length-map}
use Rattle.std.proofs.lemmas.List.Folds.{list_all_more, list_all_at}
use Rattle.std.proofs.lemmas.Option.{slice_get_cases, slice_get_past, get_or_from_slice_get, slice_get-get_or, slice_get-map}
use Rattle.std.proofs.Common.{All, IfSome, length-append, ◌⊎◌}
use Rattle.mv_bound_rules.specs.Bounds.{below}

-- one entry more passes
pub all_pass_more : {A : Type 0} (p : A → Bool) (xs : List A) (i : ℕ) (x : A) → Some x ≡ slice_get xs i → list_all p (take i xs) ≡ true → p x ≡ true → list_all p (take (i + 1) xs) ≡ true
all_pass_more p xs i x e h here =
    list_all_more p xs i x (slice_get_within xs i x (sym e))
    ∙ ap (λ b. b && p (get_or xs i x)) h ∙ ap p (get_or_from_slice_get xs i x x (sym e)) ∙ here

-- an entry that fails
pub all_pass_not : {A : Type 0} (p : A → Bool) (xs : List A) (i : ℕ) (x : A) → Some x ≡ slice_get xs i → p x ≡ false → list_all p xs ≡ false
all_pass_not p xs i x e fails =
    list_all_at p xs i x (slice_get_within xs i x (sym e)) (ap p (get_or_from_slice_get xs i x x (sym e)) ∙ fails)

-- one entry more of those that were read
pub read_more : {A B : Type 0} (f : A → B) (read : List A) (xs : List B) (i : ℕ) (x : A) → map f read ≡ take i xs → Some (f x) ≡ slice_get xs i → map f (read ++ x ∷ []) ≡ take (i + 1) xs
read_more f read xs i x before e =
    let low : i < length xs = slice_get_within xs i (f x) (sym e) in
    map-append f read (x ∷ []) ∙ ap (λ ys. ys ++ f x ∷ []) before
    ∙ ap (λ y. take i xs ++ y ∷ []) (sym (get_or_from_slice_get xs i (f x) (f x) (sym e))) ∙ sym (take_more xs i (f x) low)

-- no index below the length is without an entry
pub missing : {A : Type 0} (xs : List A) (i : ℕ) → None ≡ slice_get xs i → i < length xs → ⊥
missing xs i e low =
    elim (slice_get_cases xs i).1 [ inl p ↦ none-some p.0 (e ∙ p.2) | inr p ↦ omega (arith, low, p.0) ]

-- one entry more of those whose values were gathered
pub gather_more : {A B X : Type 0} (f : A → B) (g : X → B) (read : List A) (xs : List X) (i : ℕ) (a : A) (x : X) → map f read ≡ map g (take i xs)
    → i < length xs → x ≡ get_or xs i x → f a ≡ g x → map f (read ++ a ∷ []) ≡ map g (take (i + 1) xs)
gather_more f g read xs i a x before low here same =
    map-append f read (a ∷ []) ∙ ap₂ (λ ys y. ys ++ y ∷ []) before (same ∙ ap g here)
    ∙ sym (map-append g (take i xs) (get_or xs i x ∷ [])) ∙ ap (map g) (sym (take_more xs i x low))

-- the same, of an entry that was asked for
pub gather_asked : {A B X : Type 0} (f : A → B) (g : X → B) (read : List A) (xs : List X) (i : ℕ) (a : A) (x : X) → map f read ≡ map g (take i xs)
    → Some x ≡ slice_get xs i → f a ≡ g x → map f (read ++ a ∷ []) ≡ map g (take (i + 1) xs)
gather_asked f g read xs i a x before e same =
    gather_more f g read xs i a x before (slice_get_within xs i x (sym e)) (sym (get_or_from_slice_get xs i x x (sym e))) same

-- a table's entry at an index that was asked for
pub got : {A : Type 0} (xs ys : List A) (i j : ℕ) (x : Bor A) → ys ≡ xs → j ≡ i → IsItemAt ys j (Some x) → slice_get xs i ≡ Some x.now
got xs ys i j x same at item =
    sym (ap (λ l. slice_get l i) same) ∙ sym (ap (slice_get ys) at) ∙ slice_get_read ys (length ys) j x.now refl item.3.0 item.1

-- a table has no entry at an index that was asked for
pub missed : {A : Type 0} (xs ys : List A) (i j : ℕ) → ys ≡ xs → j ≡ i → IsItemAt ys j None → slice_get xs i ≡ None
missed xs ys i j same at item = sym (ap (λ l. slice_get l i) same) ∙ sym (ap (slice_get ys) at) ∙ slice_get_past ys j item.3

-- an index below the length has an entry
pub element_at : {A : Type 0} (xs : List A) (k : ℕ) → k < length xs → (x : A) × (slice_get xs k ≡ Some x)
element_at [] k h = absurd (omega (arith, h))
element_at (x ∷ xs) zero h = (x, refl)
element_at (x ∷ xs) (suc k) h = element_at xs k (omega (arith, h))

-- an entry and its place
pub Contains-at : {A : Type 0} (xs : List A) (x : A) → Contains xs x → (k : ℕ) × (slice_get xs k ≡ Some x)
Contains-at xs x (k, low, is) = (k, slice_get_read xs (length xs) k x refl low (sym is))

pub at-Contains : {A : Type 0} (xs : List A) (k : ℕ) (x : A) → slice_get xs k ≡ Some x → Contains xs x
at-Contains xs k x e = (k, slice_get_within xs k x e, get_or_from_slice_get xs k x x e)

-- nothing stands in a list without entries
pub none_within : (s : List ℕ) (k : ℕ) → length s ≡ 0 → Contains s k → ⊥
none_within s k none c = let h = c.1 in omega (arith, h, none)

-- an entry of a list that each is made into is made of one
pub mapped-at : {A B : Type 0} (f : A → B) (xs : List A) (k : ℕ) (y : B) → slice_get (map f xs) k ≡ Some y → (x : A) × (slice_get xs k ≡ Some x) × (f x ≡ y)
mapped-at f [] k y e = absurd (none-some y e)
mapped-at f (x ∷ xs) zero y e = (x, refl, same_Some (f x) y e)
mapped-at f (x ∷ xs) (suc k) y e = mapped-at f xs k y e

-- what holds of all holds of each
pub all_at : {A : Type 0} (p : A → Bool) (xs : List A) (i : ℕ) (x : A) → list_all p xs ≡ true → slice_get xs i ≡ Some x → p x ≡ true
all_at p [] i x h e = absurd (none-some x e)
all_at p (y ∷ xs) zero x h e = subst (λ z. p z ≡ true) (same_Some y x e) (and_parts (p y) (list_all p xs) h).0
all_at p (y ∷ xs) (suc i) x h e = all_at p xs i x (and_parts (p y) (list_all p xs) h).1 e

-- a place that was found is one
pub place_below : {A : Type 0} (p : A → Bool) (xs : List A) (k : ℕ) → find_index p xs ≡ Some k → k < length xs
place_below p [] k e = absurd (none-some k e)
place_below p (x ∷ xs) k e = by_test (p x) (find_index p xs) (place_below p xs) e
  where
    by_test : (b : Bool) (o : Option ℕ) → ((j : ℕ) → o ≡ Some j → j < length xs) → cond b (Some 0) (option_map suc o) ≡ Some k → k < suc (length xs)
    by_test true o below e = let is : 0 ≡ k = same_Some 0 k e in omega (arith, is)
    by_test false None below e = absurd (none-some k e)
    by_test false (Some j) below e = let is : suc j ≡ k = same_Some (suc j) k e in omega (arith, is, below j refl)

-- what all of two lists have, one after the other, the first's have, and the second's
pub All-first : {A : Type 0} (P : A → Type 0) (xs ys : List A) → All P (xs ++ ys) → All P xs
All-first P xs ys all = λ k d h. subst P (get_or_append_left xs ys d k h) (all k d (omega (arith, length-append xs ys)))

pub All-second : {A : Type 0} (P : A → Type 0) (xs ys : List A) → All P (xs ++ ys) → All P ys
All-second P xs ys all = λ k d h. subst P (get_or-append-add xs ys k d) (all (length xs + k) d (omega (arith, length-append xs ys)))

-- the last of a list, or one before
pub last_or_before : {A : Type 0} (xs : List A) (y : A) (k : ℕ) (x : A) → slice_get (xs ++ y ∷ []) k ≡ Some x → (slice_get xs k ≡ Some x) ⊎ ((k ≡ length xs) × (y ≡ x))
last_or_before [] y zero x e = inr (refl, same_Some y x e)
last_or_before [] y (suc k) x e = absurd (none-some x e)
last_or_before (z ∷ zs) y zero x e = inl e
last_or_before (z ∷ zs) y (suc k) x e = elim (last_or_before zs y k x e) [ inl p ↦ inl p | inr p ↦ inr (ap suc p.0, p.1) ]

-- an index below the length, by its test
pub there_below : {A : Type 0} (xs : List A) (k : ℕ) → below k xs ≡ true → (x : A) × (slice_get xs k ≡ Some x)
there_below xs k h = element_at xs k (ltb-true k (length xs) h)

-- what is listed of an entry, where it is listed of all
pub listed_at : {A B X : Type 0} (v : A → B) (h : X → B) (all : List X) (i : ℕ) (x : A) (xs : List A) → map v xs ≡ map h all → i < length all → x ≡ get_or xs i x
    → IfSome (slice_get all i) (λ d. v x ≡ h d)
listed_at v h all i x xs is below at =
    let d = element_at all i below in
    let within : i < length xs = omega (arith, ap length is, length-map xs v, length-map all h) in
    let here : Some (v x) ≡ Some (h d.0) =
    ap (λ t. Some (v t)) at ∙ sym (ap (option_map v) (slice_get-get_or xs i x within)) ∙ sym (slice_get-map v xs i) ∙ ap (λ l. slice_get l i) is ∙ slice_get-map h all i ∙ ap (option_map h) d.1 in
    rw d.1 (same_Some (v x) (h d.0) here)
