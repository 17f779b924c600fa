-- Where an instruction finds what it needs among some availabilities, it does among all below, and leaves availabilities below.
-- It stands in specs/, since a trait's laws may cite nothing of their own crate but its specs/.
use Rattle.std.specs.Prelude.{◌≡◌, ℕ, zero, suc, List, [], ◌∷◌, Bool, true, false, Option, Some, None, slice_get, slice_set}
use Rattle.std.specs.Bool.{then_some}
use Rattle.std.proofs.Common.{refl, sym, subst, true≢false}
use Rattle.std.proofs.lemmas.Bool.{and_parts, and_from}
use Rattle.std.proofs.lemmas.Option.{none-some, same_Some}
use Rattle.mv_move_types.specs.declared.borrow.Availability.{Availability}
use Rattle.mv_move_types.specs.declared.borrow.Availability.TheVariants.{Unavailable, Available, Maybe}
use Rattle.mv_move_types.specs.declared.token.Token.{Token}
use Rattle.mv_move_types.specs.declared.instruction.Instruction.{Instruction}
use Rattle.mv_move_types.specs.declared.instruction.Instruction.TheVariants.{Ret, CopyLoc, MoveLoc, StLoc, MutBorrowLoc, ImmBorrowLoc}
use Rattle.mv_move_types.specs.Options.{◌>>=◌}
use Rattle.mv_move_types.specs.Module.{Module, FunctionDefinition, local_tokens, local_type}
use Rattle.mv_type_rules.specs.TypesHold.{Point, point_at}
use Rattle.mv_certificate_rules.specs.LocalsRules.{availability_leq, locals_leq, locals_after, is_available, needs_available, has_drop}
use Rattle.mv_certificate_rules.proofs.LocalsOrder.{reflexive_one}
use Rattle.mv_certificate_rules.specs.LocalsRules.{may_overwrite, may_leave, store_known, leave_known}
use Rattle.mv_locals_safety.specs.Domain.{locals_step}

-- where the second is there, the first is there, and below it
abbrev pub Below : Option (List Availability) → Option (List Availability) → Type 0
Below low high = (v : List Availability) → high ≡ Some v → (u : List Availability) × ((low ≡ Some u) × (locals_leq u v ≡ true))

some_below : (a b : List Availability) → locals_leq a b ≡ true → Below (Some a) (Some b)
some_below a b h v e = (a, (refl, subst (λ x. locals_leq a x ≡ true) (same_Some b v e) h))

tested_below : (low high : Bool) (a b : List Availability) → (high ≡ true → low ≡ true) → locals_leq a b ≡ true → Below (then_some low a) (then_some high b)
tested_below low false a b f h v e = absurd (none-some v e)
tested_below true true a b f h v e = some_below a b h v e
tested_below false true a b f h v e = absurd (true≢false (sym (f refl)))

found_below : {A : Type 0} (o : Option A) (f g : A → Option (List Availability)) → ((x : A) → Below (f x) (g x)) → Below (o >>= f) (o >>= g)
found_below None f g h v e = absurd (none-some v e)
found_below (Some x) f g h v e = h x v e

-- the test of one availability, of all below
available_below : (x y : Availability) → availability_leq x y ≡ true → is_available y ≡ true → is_available x ≡ true
available_below Available y h e = refl
available_below x Maybe h e = absurd (true≢false (sym e))
available_below x Unavailable h e = absurd (true≢false (sym e))
available_below Unavailable Available h e = absurd (true≢false (sym h))
available_below Maybe Available h e = absurd (true≢false (sym h))

overwrite_below : (p : Point) (t : Token) (x y : Availability) → availability_leq x y ≡ true → may_overwrite p t y ≡ true → may_overwrite p t x ≡ true
overwrite_below p t Unavailable y h e = refl
overwrite_below p t Available Available h e = e
overwrite_below p t Available Maybe h e = e
overwrite_below p t Maybe Maybe h e = e
overwrite_below p t Available Unavailable h e = absurd (true≢false (sym h))
overwrite_below p t Maybe Unavailable h e = absurd (true≢false (sym h))
overwrite_below p t Maybe Available h e = absurd (true≢false (sym h))

leave_below : (p : Point) (ts : List Token) (a b : List Availability) → locals_leq a b ≡ true → may_leave p ts b ≡ true → may_leave p ts a ≡ true
leave_below p [] [] b h e = refl
leave_below p [] (x ∷ a) b h e = refl
leave_below p (t ∷ ts) [] b h e = refl
leave_below p (t ∷ ts) (x ∷ a) [] h e = absurd (true≢false (sym h))
leave_below p (t ∷ ts) (Unavailable ∷ a) (Unavailable ∷ b) h e = leave_below p ts a b h e
leave_below p (t ∷ ts) (Unavailable ∷ a) (Available ∷ b) h e = absurd (true≢false (sym h))
leave_below p (t ∷ ts) (Unavailable ∷ a) (Maybe ∷ b) h e = leave_below p ts a b h (and_parts (has_drop p t) (may_leave p ts b) e).1
leave_below p (t ∷ ts) (Available ∷ a) (Unavailable ∷ b) h e = absurd (true≢false (sym h))
leave_below p (t ∷ ts) (Available ∷ a) (Available ∷ b) h e =
    let parts = and_parts (has_drop p t) (may_leave p ts b) e in and_from (has_drop p t) (may_leave p ts a) parts.0 (leave_below p ts a b h parts.1)
leave_below p (t ∷ ts) (Available ∷ a) (Maybe ∷ b) h e =
    let parts = and_parts (has_drop p t) (may_leave p ts b) e in and_from (has_drop p t) (may_leave p ts a) parts.0 (leave_below p ts a b h parts.1)
leave_below p (t ∷ ts) (Maybe ∷ a) (Unavailable ∷ b) h e = absurd (true≢false (sym h))
leave_below p (t ∷ ts) (Maybe ∷ a) (Available ∷ b) h e = absurd (true≢false (sym h))
leave_below p (t ∷ ts) (Maybe ∷ a) (Maybe ∷ b) h e =
    let parts = and_parts (has_drop p t) (may_leave p ts b) e in and_from (has_drop p t) (may_leave p ts a) parts.0 (leave_below p ts a b h parts.1)

-- what stands at a place is below what stands there in what is above
below_at : (a b : List Availability) (l : ℕ) (y : Availability) → locals_leq a b ≡ true → slice_get b l ≡ Some y
    → (x : Availability) × ((slice_get a l ≡ Some x) × (availability_leq x y ≡ true))
below_at [] [] l y h e = absurd (none-some y e)
below_at [] (z ∷ b) l y h e = absurd (true≢false (sym h))
below_at (x ∷ a) [] l y h e = absurd (none-some y e)
below_at (x ∷ a) (z ∷ b) zero y h e =
    (x, (refl, subst (λ s. availability_leq x s ≡ true) (same_Some z y e) (and_parts (availability_leq x z) (locals_leq a b) h).0))
below_at (x ∷ a) (z ∷ b) (suc l) y h e = below_at a b l y (and_parts (availability_leq x z) (locals_leq a b) h).1 e

-- the same availability written into both
set_below : (a b : List Availability) (l : ℕ) (x : Availability) → locals_leq a b ≡ true → locals_leq (slice_set a l x) (slice_set b l x) ≡ true
set_below [] [] l x h = refl
set_below [] (z ∷ b) l x h = absurd (true≢false (sym h))
set_below (y ∷ a) [] l x h = absurd (true≢false (sym h))
set_below (y ∷ a) (z ∷ b) zero x h = and_from (availability_leq x x) (locals_leq a b) (reflexive_one x) (and_parts (availability_leq y z) (locals_leq a b) h).1
set_below (y ∷ a) (z ∷ b) (suc l) x h =
    let parts = and_parts (availability_leq y z) (locals_leq a b) h in
    and_from (availability_leq y z) (locals_leq (slice_set a l x) (slice_set b l x)) parts.0 (set_below a b l x parts.1)

module _ (p : Point) (a b : List Availability) (below : locals_leq a b ≡ true) where
  -- a change that a test of one local allows
  one_below : (l : ℕ) (test : Availability → Bool) (f : List Availability → List Availability)
      → ((x y : Availability) → availability_leq x y ≡ true → test y ≡ true → test x ≡ true)
      → locals_leq (f a) (f b) ≡ true → Below (slice_get a l >>= λ x. then_some (test x) (f a)) (slice_get b l >>= λ x. then_some (test x) (f b))
  one_below l test f tests h v e = by_local (slice_get b l) refl e
    where
      by_local : (o : Option Availability) → slice_get b l ≡ o → (o >>= λ x. then_some (test x) (f b)) ≡ Some v
          → (u : List Availability) × (((slice_get a l >>= λ x. then_some (test x) (f a)) ≡ Some u) × (locals_leq u v ≡ true))
      by_local None at is = absurd (none-some v is)
      by_local (Some y) at is =
          let low = below_at a b l y below at in
          let found = tested_below (test low.0) (test y) (f a) (f b) (tests low.0 y low.1.1) h v is in
          (found.0, (rw low.1.0 found.1.0, found.1.1))

  needed_below : (l : ℕ) → Below (needs_available l a) (needs_available l b)
  needed_below l = one_below l is_available (λ s. s) available_below below

  moved_below : (l : ℕ) → Below (needs_available l a >>= λ s. Some (slice_set s l Unavailable)) (needs_available l b >>= λ s. Some (slice_set s l Unavailable))
  moved_below l v e = by_need (needs_available l b) refl e
    where
      by_need : (o : Option (List Availability)) → needs_available l b ≡ o → (o >>= λ s. Some (slice_set s l Unavailable)) ≡ Some v
          → (u : List Availability) × (((needs_available l a >>= λ s. Some (slice_set s l Unavailable)) ≡ Some u) × (locals_leq u v ≡ true))
      by_need None at is = absurd (none-some v is)
      by_need (Some s) at is =
          let low = needed_below l s at in (
            slice_set low.0 l Unavailable,
            (
              rw low.1.0 refl,
              subst (λ x. locals_leq (slice_set low.0 l Unavailable) x ≡ true)
                  (same_Some (slice_set s l Unavailable) v is) (set_below low.0 s l Unavailable low.1.1),
            ),
          )

  stored_below : (l : ℕ) → Below (store_known p l a) (store_known p l b)
  stored_below l =
      found_below (local_type p.home p.function l) _ _ (λ t.
      one_below l (may_overwrite p t) (λ s. slice_set s l Available) (overwrite_below p t) (set_below a b l Available below))

  left_below : Below (leave_known p a) (leave_known p b)
  left_below =
      found_below (local_tokens p.home p.function) _ _ (λ ts. tested_below (may_leave p ts a) (may_leave p ts b) a b (leave_below p ts a b below) below)

  after_below : (i : Instruction) → Below (locals_after p i a) (locals_after p i b)
  unfolding locals_after
  after_below (CopyLoc l) = needed_below l
  after_below (MoveLoc l) = moved_below l
  after_below (StLoc l) = stored_below l
  after_below (MutBorrowLoc l) = needed_below l
  after_below (ImmBorrowLoc l) = needed_below l
  after_below Ret = left_below
  after_below _ = some_below a b below

-- the step at a place is defined where it is on availabilities above, and its result is below
pub step_below : (m : Module) (d : FunctionDefinition) (at : ℕ) (a b : List Availability) → locals_leq a b ≡ true
    → Below (locals_step m d at a) (locals_step m d at b)
step_below m d at a b h = found_below (slice_get d.code at) _ _ (λ i. after_below (point_at m d []) a b h i)
