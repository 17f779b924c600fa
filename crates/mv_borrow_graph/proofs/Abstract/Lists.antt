-- What pushes, pops and writes of locals do to the live references.
use Rattle.std.proofs.Common.{◌≡◌, ℕ, zero, suc, ◌<◌, ◌+◌, List, [], ◌∷◌, ◌++◌, length, ◌⊎◌, inl, inr, refl, sym, ◌∙◌, ap, arith, Option, Some, None}
use Rattle.std.proofs.lemmas.Bool.Decides.{eqb_tells}
use Rattle.std.proofs.lemmas.List.{length-append}
use Rattle.std.proofs.lemmas.Bool.{cases_eq}
use Rattle.mv_borrow_graph.proofs.Abstract.Terms.Covers.{Node, Slot, Own, Glob, Temp, Ref, Live}
use Rattle.mv_borrow_graph.proofs.Abstract.Terms.Lists.{Value, Reference, ref_of, ref_in, stack_ref, local_ref, set_local, refs_of, Activation, seen}
use Rattle.mv_borrow_graph.proofs.Abstract.Rows.{Pushed}
use Rattle.std.proofs.lemmas.Option.{same_Some}

pub stack_below : (s : List Value) (k : ℕ) (r : Ref) → stack_ref s k ≡ Some r → k < length s
stack_below [] k r h = cc
stack_below (v ∷ s) k r h =
    elim (eqb_tells k (length s)) [
      | inl t ↦ let e = t.1 in omega arith
      | inr t ↦ let p : k < length s = stack_below s k r (rw t.0 at h) in omega arith
    ]

-- what stands on the stack stood there before the push, or is the value pushed
pub stack_pushed : (v : Value) (s : List Value) (k : ℕ) (r : Ref) → stack_ref (v ∷ s) k ≡ Some r
    → ((k ≡ length s) × (ref_of v ≡ Some r)) ⊎ ((k ≡ length s → ⊥) × (stack_ref s k ≡ Some r))
stack_pushed v s k r h =
    elim (eqb_tells k (length s)) [
      | inl t ↦ inl (t.1, rw t.0 at h)
      | inr t ↦ inr (t.1, rw t.0 at h)
    ]

pub stack_top : (v : Value) (s : List Value) → stack_ref (v ∷ s) (length s) ≡ ref_of v
stack_top v s =
    elim (eqb_tells (length s) (length s)) [
      | inl t ↦ rw t.0
      | inr t ↦ absurd (t.1 refl)
    ]

pub stack_under : (v : Value) (s : List Value) (k : ℕ) (r : Ref) → stack_ref s k ≡ Some r → (k ≡ length s → ⊥) × (stack_ref (v ∷ s) k ≡ Some r)
stack_under v s k r h =
    let p : k < length s = stack_below s k r h in
    elim (eqb_tells k (length s)) [
      | inl t ↦ let e = t.1 in absurd (omega arith)
      | inr t ↦ (t.1, rw t.0 h)
    ]

-- a part of the stack under others
pub stack_split : (xs s : List Value) (k : ℕ) (r : Ref) → stack_ref (xs ++ s) k ≡ Some r
    → ((k < length s) × (stack_ref s k ≡ Some r)) ⊎ ((i : ℕ) × (k ≡ length s + i) × (stack_ref xs i ≡ Some r))
stack_split [] s k r h = inl (stack_below s k r h, h)
stack_split (v ∷ xs) s k r h =
    elim (stack_pushed v (xs ++ s) k r h) [
      | inl t ↦ inr (length xs, t.0 ∙ length_joined xs s, stack_top v xs ∙ t.1)
      | inr t ↦ elim (stack_split xs s k r t.1) [
        | inl u ↦ inl u
        | inr u ↦ inr (u.0, u.1, (stack_under v xs u.0 r u.2).1)
      ]
    ]
  where
    length_joined : (xs s : List Value) → length (xs ++ s) ≡ length s + length xs
    length_joined xs s = omega (arith, length-append xs s)

pub stack_joined : (xs s : List Value) (i : ℕ) (r : Ref) → stack_ref xs i ≡ Some r → stack_ref (xs ++ s) (length s + i) ≡ Some r
stack_joined [] s i r h = cc
stack_joined (v ∷ xs) s i r h =
    elim (stack_pushed v xs i r h) [
      | inl t ↦ rw (at_top t.0) (stack_top v (xs ++ s) ∙ t.1)
      | inr t ↦ (stack_under v (xs ++ s) (length s + i) r (stack_joined xs s i r t.1)).1
    ]
  where
    at_top : i ≡ length xs → length s + i ≡ length (xs ++ s)
    at_top e = omega (arith, length-append xs s)

pub stack_kept : (xs s : List Value) (k : ℕ) (r : Ref) → stack_ref s k ≡ Some r → stack_ref (xs ++ s) k ≡ Some r
stack_kept [] s k r h = h
stack_kept (v ∷ xs) s k r h = (stack_under v (xs ++ s) k r (stack_kept xs s k r h)).1

pub local_set_same : (xs : List (Option Value)) (l : ℕ) (v : Option Value) (r : Ref) → local_ref (set_local xs l v) l ≡ Some r → ref_in v ≡ Some r
local_set_same [] l v r h = cc
local_set_same (x ∷ xs) zero v r h = h
local_set_same (x ∷ xs) (suc l) v r h = local_set_same xs l v r h

pub local_set_other : (xs : List (Option Value)) (l m : ℕ) (v : Option Value) (r : Ref) → (m ≡ l → ⊥) → local_ref (set_local xs l v) m ≡ Some r → local_ref xs m ≡ Some r
local_set_other [] l m v r d h = cc
local_set_other (x ∷ xs) zero zero v r d h = absurd (d refl)
local_set_other (x ∷ xs) zero (suc m) v r d h = h
local_set_other (x ∷ xs) (suc l) zero v r d h = h
local_set_other (x ∷ xs) (suc l) (suc m) v r d h = local_set_other xs l m v r (λ z. d (ap suc z)) h

pub same_temp : (a b : ℕ) → Temp a ≡ Temp b → a ≡ b
same_temp a b h = cc

same_slot : (a b : ℕ) → Slot a ≡ Slot b → a ≡ b
same_slot a b h = cc

-- the rows' premises, from the lists. CopyLoc, and the borrows of a local or of the store: a push
pub pushed_at : (a : Activation) (new : Ref) → Pushed (seen a) (refs_of a.locals (Reference new ∷ a.stack)) (length a.stack) new
pushed_at a new (Slot l) r h = inr ((λ z. cc), h)
pushed_at a new (Own l) r h = cc
pushed_at a new (Glob l) r h = cc
pushed_at a new (Temp k) r h =
    elim (stack_pushed (Reference new) a.stack k r h) [
      | inl t ↦ inl (ap Temp t.0, sym (same_Some new r t.1))
      | inr t ↦ inr ((λ z. t.0 (same_temp k (length a.stack) z)), t.1)
    ]

-- the field borrows and FreezeRef: another reference in the operand's place
pub replaced_at : (a : Activation) (s : List Value) (old : Value) (new : Ref) → a.stack ≡ old ∷ s
    → Pushed (seen a) (refs_of a.locals (Reference new ∷ s)) (length s) new
replaced_at a s old new e (Slot l) r h = inr ((λ z. cc), h)
replaced_at a s old new e (Own l) r h = cc
replaced_at a s old new e (Glob l) r h = cc
replaced_at a s old new e (Temp k) r h =
    elim (stack_pushed (Reference new) s k r h) [
      | inl t ↦ inl (ap Temp t.0, sym (same_Some new r t.1))
      | inr t ↦ inr ((λ z. t.0 (same_temp k (length s) z)), rw e (stack_under old s k r t.1).1)
    ]

pub operand_at : (a : Activation) (s : List Value) (old : Ref) → a.stack ≡ Reference old ∷ s → Live (seen a) (Temp (length s)) old
operand_at a s old e = rw e (stack_top (Reference old) s)

-- ReadRef, Pop, MoveTo and the like: what is left of the stack under the operand, and values that are no references on it
pub dropped_at : (a : Activation) (s : List Value) (old : Value) → a.stack ≡ old ∷ s
    → (n : Node) (r : Ref) → refs_of a.locals s n ≡ Some r → (n ≡ Temp (length s) → ⊥) × Live (seen a) n r
dropped_at a s old e (Slot l) r h = ((λ z. cc), h)
dropped_at a s old e (Own l) r h = cc
dropped_at a s old e (Glob l) r h = cc
dropped_at a s old e (Temp k) r h =
    let u = stack_under old s k r h in
    ((λ z. u.0 (same_temp k (length s) z)), rw e u.1)

-- MoveLoc of a reference
pub moved_at : (a : Activation) (l : ℕ) (old : Ref) → Live (seen a) (Slot l) old
    → (n : Node) (r : Ref) → refs_of (set_local a.locals l None) (Reference old ∷ a.stack) n ≡ Some r
    → ((n ≡ Temp (length a.stack)) × Live (seen a) (Slot l) r) ⊎ ((n ≡ Temp (length a.stack) → ⊥) × (n ≡ Slot l → ⊥) × Live (seen a) n r)
moved_at a l old was (Slot m) r h =
    elim (cases_eq m l) [
      | inl t ↦ absurd (gone (local_set_same a.locals l None r (rw t at h)))
      | inr t ↦ inr ((λ z. cc), (λ z. t (same_slot m l z)), local_set_other a.locals l m None r t h)
    ]
  where
    gone : ◌≡◌ {A = Option Ref} None (Some r) → ⊥
    gone h = cc
moved_at a l old was (Own m) r h = cc
moved_at a l old was (Glob m) r h = cc
moved_at a l old was (Temp k) r h =
    elim (stack_pushed (Reference old) a.stack k r h) [
      | inl t ↦ inl (ap Temp t.0, was ∙ t.1)
      | inr t ↦ inr ((λ z. t.0 (same_temp k (length a.stack) z)), (λ z. cc), t.1)
    ]

-- StLoc of a reference
pub stored_at : (a : Activation) (l : ℕ) (s : List Value) (old : Ref) → a.stack ≡ Reference old ∷ s
    → (n : Node) (r : Ref) → refs_of (set_local a.locals l (Some (Reference old))) s n ≡ Some r
    → ((n ≡ Slot l) × Live (seen a) (Temp (length s)) r) ⊎ ((n ≡ Slot l → ⊥) × (n ≡ Temp (length s) → ⊥) × Live (seen a) n r)
stored_at a l s old e (Slot m) r h =
    elim (cases_eq m l) [
      | inl t ↦ inl (ap Slot t, operand_at a s old e ∙ local_set_same a.locals l (Some (Reference old)) r (rw t at h))
      | inr t ↦ inr ((λ z. t (same_slot m l z)), (λ z. cc), local_set_other a.locals l m (Some (Reference old)) r t h)
    ]
stored_at a l s old e (Own m) r h = cc
stored_at a l s old e (Glob m) r h = cc
stored_at a l s old e (Temp k) r h =
    let u = stack_under (Reference old) s k r h in
    inr ((λ z. cc), (λ z. u.0 (same_temp k (length s) z)), rw e u.1)

abbrev pub returned : ℕ → Node → Node → Type 0
returned height m n = (i : ℕ) × (m ≡ Temp i) × (n ≡ Temp (height + i))

-- a Ret: the results, which are all that stands on the callee's stack, stand on the caller's where the arguments stood
pub returned_at : (w u : Activation) (args s : List Value) → w.stack ≡ args ++ s
    → (n : Node) (r : Ref) → refs_of w.locals (u.stack ++ s) n ≡ Some r
    → (((k : ℕ) → n ≡ Temp k → k < length s) × Live (seen w) n r) ⊎ ((m : Node) × returned (length s) m n × Live (seen u) m r)
returned_at w u args s e (Slot l) r h = inl ((λ k z. cc), h)
returned_at w u args s e (Own l) r h = cc
returned_at w u args s e (Glob l) r h = cc
returned_at w u args s e (Temp k) r h =
    elim (stack_split u.stack s k r h) [
      | inl t ↦ inl ((λ j z. rw (same_temp k j z) at t.0), rw e (stack_kept args s k r t.1))
      | inr t ↦ inr (Temp t.0, (t.0, refl, ap Temp t.1), t.2)
    ]
