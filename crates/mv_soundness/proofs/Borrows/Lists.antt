-- Lists of locals and operands, as the machine has them and as the borrow theory has them.
use Rattle.mv_soundness.proofs.Borrows.Common.{refl, sym, ◌≡◌, ℕ, List, [], ◌∷◌, inl, inr, ap, zero, suc, ◌++◌, map, length, Option, Some, None, ◌+◌, reverse, cond, ◌∙◌, arith, eqb}
use Rattle.mv_soundness.proofs.Borrows.Common.{eqb_tells, reverse_onto, length-map, length-append, length-reverse, same_Some, slice_get, slice_set, reference_of, Reference, Value}
use Rattle.mv_soundness.proofs.Borrows.Common.{TheRef, TheValue, local_ref, stack_ref, set_local, ref_of, local_of, held_as}
use Rattle.std.proofs.{lemmas.Option.slice_get_past, lemmas.Bool.cases_lt}
use Rattle.mv_bound_rules.proofs.PlaceLemmas.{slice_get-first, slice_get-second}
use Rattle.mv_borrow_graph.proofs.Abstract.Terms.Lists.{ref_of as the_ref_of}

-- the element with k under it
abbrev pub place_get : {A : Type 0} → List A → ℕ → Option A
place_get [] k = None
place_get (x ∷ s) k = cond (eqb k (length s)) (Some x) (place_get s k)

-- ---- locals

pub set-map : (xs : List (Option Value)) (l : ℕ) (v : Option Value) → map local_of (slice_set xs l v) ≡ set_local (map local_of xs) l (local_of v)
set-map (x ∷ xs) (suc l) v = ap (λ (t : List (Option TheValue)). local_of x ∷ t) (set-map xs l v)
set-map xs l v = refl

-- a local's reference as the theory has it
pub local-seen : (xs : List (Option Value)) (l : ℕ) (v : Value) (r : Reference) → slice_get xs l ≡ Some (Some v) → reference_of v ≡ Some r
    → local_ref (map local_of xs) l ≡ Some (ref_of r)
local-seen [] l v r h k = absurd cc
local-seen (x ∷ xs) zero v r h k = rw (same_Some x (Some v) h, k) refl
local-seen (x ∷ xs) (suc l) v r h k = local-seen xs l v r h k

held_is : (o : Option Reference) (q : TheRef) → the_ref_of (held_as o) ≡ Some q → (r : Reference) × (o ≡ Some r) × (q ≡ ref_of r)
held_is None q h = absurd cc
held_is (Some r) q h = (r, refl, sym (same_Some (ref_of r) q h))

pub local-back : (xs : List (Option Value)) (l : ℕ) (q : TheRef) → local_ref (map local_of xs) l ≡ Some q
    → (v : Value) × (r : Reference) × (slice_get xs l ≡ Some (Some v)) × (reference_of v ≡ Some r) × (q ≡ ref_of r)
local-back (Some v ∷ xs) zero q h = let t = held_is (reference_of v) q h in (v, t.0, refl, t.1, t.2)
local-back (x ∷ xs) (suc l) q h = local-back xs l q h
local-back xs l q h = absurd cc

-- ---- operands

last-get : {A : Type 0} (xs s : List A) (x : A) (k : ℕ) → length xs ≡ length s → slice_get xs k ≡ place_get s k → slice_get (xs ++ x ∷ []) k ≡ cond (eqb k (length s)) (Some x) (place_get s k)
last-get xs s x k h g =
    elim (eqb_tells k (length s)) [
      | inl t ↦ rw t.0 (let d = t.1 in let e : k ≡ length xs + 0 = omega arith in ap (slice_get (xs ++ x ∷ [])) e ∙ slice_get-second xs (x ∷ []) (length xs + 0) 0 refl)
      | inr t ↦ rw t.0 (elim (cases_lt k (length s)) [
        | inl l ↦ slice_get-first xs (x ∷ []) k (omega arith) ∙ g
        | inr l ↦ (let d = t.1 in let e : length (xs ++ x ∷ []) ≡ length xs + 1 = length-append xs (x ∷ []) in slice_get_past (xs ++ x ∷ []) k (omega arith))
            ∙ sym (slice_get_past xs k (omega arith)) ∙ g
      ])
    ]

pub place-reverse : {A : Type 0} (s : List A) (k : ℕ) → slice_get (reverse s) k ≡ place_get s k
place-reverse [] k = refl
place-reverse (x ∷ s) k = ap (λ l. slice_get l k) (reverse_onto s x []) ∙ last-get (reverse s) s x k (length-reverse s) (place-reverse s k)

-- an operand's reference as the theory has it
pub stack-seen : (os : List (Option Reference)) (k : ℕ) (r : Reference) → place_get os k ≡ Some (Some r) → stack_ref (map held_as os) k ≡ Some (ref_of r)
stack-seen [] k r h = absurd cc
stack-seen (o ∷ os) k r h =
    elim (eqb_tells k (length os)) [
      | inl t ↦ rw (length-map os held_as, t.0, same_Some o (Some r) (rw t.0 at h)) refl
      | inr t ↦ rw (length-map os held_as, t.0) (stack-seen os k r (rw t.0 at h))
    ]

pub stack-back : (os : List (Option Reference)) (k : ℕ) (q : TheRef) → stack_ref (map held_as os) k ≡ Some q
    → (r : Reference) × (place_get os k ≡ Some (Some r)) × (q ≡ ref_of r)
stack-back [] k q h = absurd cc
stack-back (o ∷ os) k q h =
    elim (eqb_tells k (length os)) [
      | inl t ↦ let u = held_is o q (rw (length-map os held_as, t.0) at h) in (u.0, rw t.0 (ap Some u.1), u.2)
      | inr t ↦ let u = stack-back os k q (rw (length-map os held_as, t.0) at h) in (u.0, rw t.0 u.1, u.2)
    ]
