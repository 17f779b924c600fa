-- Availabilities: what is known of each local is as it is, and what that gives.
use Rattle.mv_soundness.proofs.Borrows.Common.{refl, sym, ◌≡◌, ℕ, List, [], ◌∷◌, true, subst, zero, suc, ◌++◌, map, length, Option, Some, None, arith, and_from, and_parts}
use Rattle.mv_soundness.proofs.Borrows.Common.{true≢false, same_Some, list_all, slice_get, slice_set, replicate, Availability, Token, Here, can_drop, Value, Point, local_of, on_bind}
use Rattle.mv_move_types.specs.declared.borrow.Availability.TheVariants.{Unavailable, Available, Maybe}
use Rattle.mv_certificate_rules.specs.LocalsRules.{availability_leq, locals_leq, is_available, needs_available, has_drop, may_overwrite, may_leave}
use Rattle.mv_soundness.specs.{Borrows.Covers.IsAs}
use Rattle.mv_soundness.proofs.{Borrows.Locals.DropFits, Borrows.Locals.AsKnown}
use Rattle.mv_machine.specs.{StepParts.may_drop}
use Rattle.mv_soundness.proofs.Borrows.Edges.{then-some}

-- the clause on locals of what covers a frame
pub known-at : (as' : List Availability) (xs : List (Option Value)) (l : ℕ) (a : Availability) (x : Option Value) → AsKnown as' xs → slice_get as' l ≡ Some a → slice_get xs l ≡ Some x → IsAs a x
known-at (b ∷ as') (y ∷ xs) zero a x k h g = subst (λ z. IsAs a z) (same_Some y x g) (subst (λ z. IsAs z y) (same_Some b a h) k.0)
known-at (b ∷ as') (y ∷ xs) (suc l) a x k h g = known-at as' xs l a x k.1 h g
known-at as' xs l a x k h g = absurd cc

-- a local that is known to be available holds a value
available-holds : (as' : List Availability) (xs : List (Option Value)) (l : ℕ) (a : Availability) → AsKnown as' xs → slice_get as' l ≡ Some a
    → is_available a ≡ true → (v : Value) × (slice_get xs l ≡ Some (Some v))
available-holds (b ∷ as') (y ∷ xs) zero a k h g = there a y g (subst (λ z. IsAs z y) (same_Some b a h) k.0)
  where
    there : (a : Availability) (y : Option Value) → is_available a ≡ true → IsAs a y → (v : Value) × (Some y ≡ Some (Some v))
    there Available (Some v) g k = (v, refl)
    there Available None g k = absurd (true≢false (sym k))
    there a y g k = absurd cc
available-holds (b ∷ as') (y ∷ xs) (suc l) a k h g = available-holds as' xs l a k.1 h g
available-holds as' xs l a k h g = absurd (grind arith)

pub needed-holds : (l : ℕ) (as' bs : List Availability) (xs : List (Option Value)) → AsKnown as' xs → needs_available l as' ≡ Some bs → (bs ≡ as') × ((v : Value) × (slice_get xs l ≡ Some (Some v)))
needed-holds l as' bs xs k h =
    on_bind (slice_get as' l) _ bs h (λ a a_is h1.
    let t = then-some (is_available a) as' bs h1 in
    (t.1, available-holds as' xs l a k a_is t.0))

-- a write of a local and of what is known of it
pub known-set : (as' : List Availability) (xs : List (Option Value)) (l : ℕ) (a : Availability) (x : Option Value) → AsKnown as' xs → IsAs a x → AsKnown (slice_set as' l a) (slice_set xs l x)
known-set [] [] l a x k h = tt
known-set (b ∷ as') (y ∷ xs) zero a x k h = (h, k.1)
known-set (b ∷ as') (y ∷ xs) (suc l) a x k h = (k.0, known-set as' xs l a x k.1 h)
known-set as' xs l a x k h = absurd k

-- what is below in the order holds above
above : (a b : Availability) (x : Option Value) → availability_leq a b ≡ true → IsAs a x → IsAs b x
above Available Available x h k = k
above Unavailable Unavailable x h k = k
above Available Maybe x h k = tt
above Unavailable Maybe x h k = tt
above Maybe Maybe x h k = tt
above a b x h k = absurd cc

pub known-above : (as' bs : List Availability) (xs : List (Option Value)) → locals_leq as' bs ≡ true → AsKnown as' xs → AsKnown bs xs
known-above [] [] xs h k = k
known-above (a ∷ as') (b ∷ bs) (x ∷ xs) h k =
    let t = and_parts (availability_leq a b) (locals_leq as' bs) h in
    (above a b x t.0 k.0, known-above as' bs xs t.1 k.1)
known-above as' bs xs h k = absurd (grind arith)

-- a new frame
pub known-start : (vs : List Value) (n : ℕ) → AsKnown (replicate (length vs) Available ++ replicate n Unavailable) (map Some vs ++ replicate n None)
known-start [] zero = tt
known-start [] (suc n) = (refl, known-start [] n)
known-start (v ∷ vs) n = (refl, known-start vs n)

-- a return leaves behind nothing that may not be dropped
pub left-drops : (h : Here) (p : Point) (ts : List Token) (as' : List Availability) (xs : List (Option Value)) → DropFits h p ts xs → AsKnown as' xs
    → may_leave p ts as' ≡ true → list_all (may_drop h) xs ≡ true
left-drops h p ts as' [] d k m = refl
left-drops h p [] as' (x ∷ xs) d k m = absurd d
left-drops h p (t ∷ ts) [] (x ∷ xs) d k m = absurd k
left-drops h p (t ∷ ts) (Unavailable ∷ as') (None ∷ xs) d k m = left-drops h p ts as' xs d k.1 m
left-drops h p (t ∷ ts) (Unavailable ∷ as') (Some v ∷ xs) d k m = let z : Some v ≡ None = k.0 in absurd cc
left-drops h p (t ∷ ts) (Available ∷ as') (None ∷ xs) d k m = absurd (true≢false (sym k.0))
left-drops h p (t ∷ ts) (Available ∷ as') (Some v ∷ xs) d k m =
    let u = and_parts (has_drop p t) (may_leave p ts as') m in and_from (can_drop h v) (list_all (may_drop h) xs) (d.0 u.0) (left-drops h p ts as' xs d.1 k.1 u.1)
left-drops h p (t ∷ ts) (Maybe ∷ as') (None ∷ xs) d k m = left-drops h p ts as' xs d k.1 (and_parts (has_drop p t) (may_leave p ts as') m).1
left-drops h p (t ∷ ts) (Maybe ∷ as') (Some v ∷ xs) d k m =
    let u = and_parts (has_drop p t) (may_leave p ts as') m in and_from (can_drop h v) (list_all (may_drop h) xs) (d.0 u.0) (left-drops h p ts as' xs d.1 k.1 u.1)

-- nor does a write of a local
pub overwritten-drops : (h : Here) (p : Point) (t : Token) (a : Availability) (old : Option Value)
    → ((v : Value) → old ≡ Some v → has_drop p t ≡ true → can_drop h v ≡ true) → IsAs a old → may_overwrite p t a ≡ true → may_drop h old ≡ true
overwritten-drops h p t a None d k m = refl
overwritten-drops h p t Unavailable (Some v) d k m = let z : Some v ≡ None = k in absurd cc
overwritten-drops h p t a (Some v) d k m = d v refl m

-- a write through a reference leaves each local as it is known
as-same : (a : Availability) (x y : Option Value) → local_of x ≡ local_of y → IsAs a x → IsAs a y
as-same Available None y h k = absurd (true≢false (sym k))
as-same Available (Some v) None h k = absurd cc
as-same Unavailable (Some v) y h k = let z : Some v ≡ None = k in absurd cc
as-same Unavailable None (Some w) h k = absurd cc
as-same Maybe x y h k = tt
as-same a x y h k = refl

pub known-same : (as' : List Availability) (xs ys : List (Option Value)) → map local_of xs ≡ map local_of ys → AsKnown as' xs → AsKnown as' ys
known-same [] [] [] h k = k
known-same (a ∷ as') (x ∷ xs) (y ∷ ys) h k =
    let z : (local_of x ∷ map local_of xs) ≡ (local_of y ∷ map local_of ys) = h in
    (as-same a x y (cc) k.0, known-same as' xs ys (cc) k.1)
known-same as' xs ys h k = absurd (grind arith)
