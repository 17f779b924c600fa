-- Calls and returns, at lists of locals and operands.
use Rattle.std.proofs.Common.{◌≡◌, ℕ, zero, suc, ◌<◌, ◌≤◌, ◌+◌, List, [], ◌∷◌, ◌++◌, length, Bool, true, ◌⊎◌, inl, inr, refl, sym, ◌∙◌, ap, arith, Option, Some}
use Rattle.mv_borrow_graph.proofs.Abstract.Terms.Places.{Defined, Label}
use Rattle.mv_borrow_graph.proofs.Abstract.Terms.Covers.{Node, Slot, Own, Glob, Temp, Ref, Live, Edges, InList, Covers}
use Rattle.mv_borrow_graph.proofs.Abstract.Terms.Rows.{IsArgument, after_call}
use Rattle.mv_borrow_graph.proofs.Abstract.Terms.Lists.{Value, Plain, Reference, stack_ref, local_ref, refs_of, Activation, seen, Lent, GivenAt, first_locals, refs_among}
use Rattle.mv_borrow_graph.proofs.Abstract.Lists.{same_temp, stack_pushed, stack_top, stack_under, stack_joined, returned, returned_at}
use Rattle.mv_borrow_graph.proofs.Abstract.Terms.Stack.{Entered, Layer, Calls, Chain}
use Rattle.mv_borrow_graph.proofs.Abstract.Stack.{covers_returned}

pub locals_from : (args : List Value) (rest : List (Option Value)) (j : ℕ) (r : Ref) → local_ref (first_locals args rest) j ≡ Some r
    → (stack_ref args j ≡ Some r) ⊎ ((i : ℕ) × (j ≡ length args + i) × (local_ref rest i ≡ Some r))
locals_from [] rest j r h = inr (j, omega arith, h)
locals_from (v ∷ args) rest j r h =
    elim (locals_from args (Some v ∷ rest) j r h) [
      | inl t ↦ inl (stack_under v args j r t).1
      | inr t ↦ at_place t.0 t.1 t.2
    ]
  where
    at_place : (i : ℕ) → j ≡ length args + i → local_ref (Some v ∷ rest) i ≡ Some r
        → (stack_ref (v ∷ args) j ≡ Some r) ⊎ ((k : ℕ) × (j ≡ suc (length args) + k) × (local_ref rest k ≡ Some r))
    at_place zero d k = inl (rw (last d) (stack_top v args ∙ k))
      where
        last : j ≡ length args + 0 → j ≡ length args
        last d = omega arith
    at_place (suc i) d k = inr (i, omega arith, k)

pub among : (args : List Value) (j : ℕ) (r : Ref) → stack_ref args j ≡ Some r → InList r (refs_among args)
among [] j r h = cc
among (Plain n ∷ args) j r h = elim (stack_pushed (Plain n) args j r h) [ inl t ↦ cc | inr t ↦ among args j r t.1 ]
among (Reference q ∷ args) j r h = elim (stack_pushed (Reference q) args j r h) [ inl t ↦ inl (same q r t.1) | inr t ↦ inr (among args j r t.1) ]
  where
    same : (q r : Ref) → Some q ≡ Some r → r ≡ q
    same q r h = cc

pub found : (args : List Value) (r : Ref) → InList r (refs_among args) → (j : ℕ) × (stack_ref args j ≡ Some r)
found [] r h = absurd h
found (Plain n ∷ args) r h = let t = found args r h in (t.0, (stack_under (Plain n) args t.0 r t.1).1)
found (Reference q ∷ args) r (inl h) = (length args, stack_top (Reference q) args ∙ ap Some (sym h))
found (Reference q ∷ args) r (inr h) = let t = found args r h in (t.0, (stack_under (Reference q) args t.0 r t.1).1)

abbrev pub came_from : ℕ → Node → Node → Type 0
came_from height m n = (j : ℕ) × (m ≡ Temp (height + j)) × (n ≡ Slot j)

module _ (w : Activation) (args s : List Value) (stack_is : w.stack ≡ args ++ s) where
  -- the new frame's references are the arguments
  pub entered_at : (u : Activation) (e : Edges) (rest : List (Option Value)) → u.locals ≡ first_locals args rest → u.stack ≡ [] → u.entry ≡ refs_among args
      → ((i : ℕ) (r : Ref) → local_ref rest i ≡ Some r → ⊥)
      → Entered (record { frame = seen w; edges = e }) (seen u) (IsArgument (length s)) (came_from (length s))
  entered_at u e rest l k h none (Slot j) r g =
      elim (locals_from args rest j r (rw l at g)) [
        | inl t ↦ (rw h (among args j r t), (Temp (length s + j), (j, refl, refl), (length s + j, refl, omega arith), rw stack_is (stack_joined args s j r t)))
        | inr t ↦ absurd (none t.0 r t.2)
      ]
  entered_at u e rest l k h none n r g = cc

  -- each entry argument stands on the caller's stack
  pub passed_at : (g : Ref) → InList g (refs_among args) → (n : Node) × IsArgument (length s) n × Live (seen w) n g
  passed_at g i =
      let t = found args g i in
      (Temp (length s + t.0), (length s + t.0, refl, omega arith), rw stack_is (stack_joined args s t.0 g t.1))

  pub came_apart : (n m a b : Node) → came_from (length s) a n → came_from (length s) b m → (n ≡ m → ⊥) → a ≡ b → ⊥
  came_apart n m a b (i, p, q) (j, t, v) d w = d (q ∙ ap Slot (cancel i j (same_temp (length s + i) (length s + j) (sym p ∙ w ∙ t))) ∙ sym v)
    where
      cancel : (i j : ℕ) → length s + i ≡ length s + j → i ≡ j
      cancel i j h = omega arith

-- the whole of a Ret, at lists
module _ (depends : ℕ → ℕ → Type 0) (home_of : Defined → ℕ) (through : (a b c : ℕ) → depends a b → depends b c → depends a c) (no_cycle : (a : ℕ) → depends a a → ⊥)
    (w u : Activation) (ew eu : Edges) (below : List Layer) (args s : List Value) (stack_is : w.stack ≡ args ++ s)
    (kind : Node → Bool) (typed : (n : Node) (r : Ref) → Live (seen w) n r → kind n ≡ r.mutable)
    (result : ℕ → Bool) (results_typed : (i : ℕ) (r : Ref) → Live (seen u) (Temp i) r → result i ≡ r.mutable)
  where
    pub return_row : Covers (seen u) eu
        → Chain depends home_of (record { frame = seen w; edges = ew } ∷ below)
        → Calls depends (record { frame = seen w; edges = ew }) (record { frame = seen u; edges = eu }) (IsArgument (length s))
        -- the needs of Ret
        → ((l i : ℕ) (x : Label) → eu (Own l) x (Temp i) → ⊥)
        → ((t : Defined) (i : ℕ) (x : Label) → eu (Glob t) x (Temp i) → ⊥)
        → ((i j : ℕ) (x : Label) → result i ≡ true → eu (Temp i) x (Temp j) → ⊥)
        → Covers (seen (record w { stack = u.stack ++ s })) (after_call (length s) kind result (Lent w) (GivenAt u) ew)
    return_row upper chain calls no_own no_glob no_pair =
        covers_returned depends home_of through no_cycle (record { frame = seen u; edges = eu }) (record { frame = seen w; edges = ew }) below
        (IsArgument (length s)) (returned (length s)) (refs_of w.locals (u.stack ++ s)) (after_call (length s) kind result (Lent w) (GivenAt u) ew)
        upper chain calls
        (λ l a. not_own l a) (λ t a. not_glob t a)
        (λ m n l x q h. no_own l q.0 x (rw q.1 at h))
        (λ m n t x q h. no_glob t q.0 x (rw q.1 at h))
        (λ m n a b r x q t h k g. no_pair q.0 t.0 x (results_typed q.0 r (rw q.1 at h) ∙ k) (rw (q.1, t.1) at g))
        (λ n r h. stood n r (returned_at w u args s stack_is n r h))
        (λ n m a b q t d v. d (q.2 ∙ ap (λ i. Temp (length s + i)) (same_temp q.0 t.0 (sym q.1 ∙ v ∙ t.1)) ∙ sym t.2))
        (λ p x c a b h. (a, inl (b, h)))
        (λ p x j g m n r a b live q h mut k. (a, inr (q.0, q.2, (r, rw q.1 at h), j, b, (g, live), (λ z. typed j g live ∙ mut (sym (results_typed q.0 r (rw q.1 at h)) ∙ z)), x, k, refl)))
      where
        not_own : (l : ℕ) → IsArgument (length s) (Own l) → ⊥
        not_own l (k, e, b) = cc

        not_glob : (t : Defined) → IsArgument (length s) (Glob t) → ⊥
        not_glob t (k, e, b) = cc

        stood : (n : Node) (r : Ref)
            → (((k : ℕ) → n ≡ Temp k → k < length s) × Live (seen w) n r) ⊎ ((m : Node) × returned (length s) m n × Live (seen u) m r)
            → ((IsArgument (length s) n → ⊥) × Live (seen w) n r) ⊎ ((m : Node) × returned (length s) m n × Live (seen u) m r)
        stood n r (inl (a, h)) = inl (λ q. not_both (q.0) (a q.0 q.1) q.2, h)
          where
            not_both : (k : ℕ) → k < length s → length s ≤ k → ⊥
            not_both k a b = omega arith
        stood n r (inr t) = inr t
