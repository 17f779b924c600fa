-- What each rule does to the lists, and that it keeps a frame covered.
use Rattle.std.proofs.Common.{◌≡◌, ℕ, List, [], ◌∷◌, length, Bool, true, false, inl, inr, refl, Some, None}
use Rattle.mv_borrow_graph.proofs.Abstract.Terms.Places.{Defined, Local, Global, field_of}
use Rattle.mv_borrow_graph.proofs.Abstract.Terms.Covers.{Node, Slot, Temp, Ref, Live, Edges, Covers}
use Rattle.mv_borrow_graph.proofs.Abstract.Terms.Rows.{Row, CopyRef, CopyMut, MoveRef, StoreRef, BorrowLocal, BorrowField, BorrowGlobal, Freeze, Drop, Need, After, after_move, after_store}
use Rattle.mv_borrow_graph.proofs.Abstract.Terms.Lists.{Value, Plain, Reference, local_ref, set_local, refs_of, Activation, seen}
use Rattle.mv_borrow_graph.proofs.Abstract.Rows.{row_copy_immutable, row_copy_mutable, row_field_mutable, row_field_immutable, row_freeze}
use Rattle.mv_borrow_graph.proofs.Abstract.Rows.{row_borrow_mutable, row_borrow_immutable, row_borrow_global_mutable, row_borrow_global_immutable}
use Rattle.mv_borrow_graph.proofs.Abstract.Rows.{row_drop, row_rename}
use Rattle.mv_borrow_graph.proofs.Abstract.Lists.{pushed_at, replaced_at, operand_at, dropped_at, moved_at, stored_at}

-- what each row does to a frame's lists, at place k
pub data Turn : Row → ℕ → Activation → Activation → Type 0 where
  Copies : (a : Activation) (l : ℕ) (r : Ref) → local_ref a.locals l ≡ Some r → r.mutable ≡ false
      → Turn (CopyRef l) (length a.stack) a (record a { stack = Reference r ∷ a.stack })
  CopiesMutable : (a : Activation) (l : ℕ) (r : Ref) → local_ref a.locals l ≡ Some r → r.mutable ≡ true
      → Turn (CopyMut l) (length a.stack) a (record a { stack = Reference r ∷ a.stack })
  Moves : (a : Activation) (l : ℕ) (r : Ref) → local_ref a.locals l ≡ Some r
      → Turn (MoveRef l) (length a.stack) a (record a { locals = set_local a.locals l None; stack = Reference r ∷ a.stack })
  Stores : (a : Activation) (l : ℕ) (r : Ref) (s : List Value) → a.stack ≡ Reference r ∷ s
      → Turn (StoreRef l) (length s) a (record a { locals = set_local a.locals l (Some (Reference r)); stack = s })
  BorrowsLocal : (a : Activation) (m : Bool) (l : ℕ)
      → Turn (BorrowLocal m l) (length a.stack) a (record a { stack = Reference (record { mutable = m; place = record { root = Local a.number l; path = [] } }) ∷ a.stack })
  BorrowsField : (a : Activation) (m : Bool) (f : ℕ) (r : Ref) (s : List Value) → a.stack ≡ Reference r ∷ s → (m ≡ true → r.mutable ≡ true)
      → Turn (BorrowField m f) (length s) a (record a { stack = Reference (record { mutable = m; place = field_of r.place f }) ∷ s })
  BorrowsGlobal : (a : Activation) (m : Bool) (b : ℕ) (t : Defined) (n : ℕ) (s : List Value) → a.stack ≡ Plain n ∷ s → a.acquires t ≡ true
      → Turn (BorrowGlobal m t) (length s) a (record a { stack = Reference (record { mutable = m; place = record { root = Global b t; path = [] } }) ∷ s })
  Freezes : (a : Activation) (r : Ref) (s : List Value) → a.stack ≡ Reference r ∷ s
      → Turn Freeze (length s) a (record a { stack = Reference (record { mutable = false; place = r.place }) ∷ s })
  Drops : (a : Activation) (v : Value) (s : List Value) → a.stack ≡ v ∷ s → Turn Drop (length s) a (record a { stack = s })

-- each row keeps a frame covered
pub covers_turn : (row : Row) (k : ℕ) (a b : Activation) (e : Edges) (kind : Node → Bool) → Covers (seen a) e
    → ((n : Node) (r : Ref) → Live (seen a) n r → kind n ≡ r.mutable)
    → Turn row k a b → Need row k kind e → Covers (seen b) (After row k e)
covers_turn row k a b e kind c typed (Copies _ l r h m) need =
    row_copy_immutable (seen a) e (refs_of a.locals (Reference r ∷ a.stack)) c kind typed (length a.stack) l r h m (pushed_at a r)
covers_turn row k a b e kind c typed (CopiesMutable _ l r h m) need =
    row_copy_mutable (seen a) e (refs_of a.locals (Reference r ∷ a.stack)) c kind typed (length a.stack) l r h m (pushed_at a r) need
covers_turn row k a b e kind c typed (Moves _ l r h) need =
    row_rename (seen a) e (refs_of (set_local a.locals l None) (Reference r ∷ a.stack)) c (Slot l) (Temp (length a.stack))
    (λ m. ((λ z. cc), (λ z. cc))) (λ t. ((λ z. cc), (λ z. cc))) (after_move l (length a.stack) e) (moved_at a l r h)
    (λ p x d w v u t g. (p, d, inr (v, refl), inr (t, refl), g))
    (λ p x w v g. (p, Slot l, inr (v, refl), inl (refl, refl), g))
    (λ d x w v g. (Slot l, d, inl (refl, refl), inr (v, refl), g))
covers_turn row k a b e kind c typed (Stores _ l r s h) need =
    row_rename (seen a) e (refs_of (set_local a.locals l (Some (Reference r))) s) c (Temp (length s)) (Slot l)
    (λ m. ((λ z. cc), (λ z. cc))) (λ t. ((λ z. cc), (λ z. cc))) (after_store l (length s) e) (stored_at a l s r h)
    (λ p x d w v u t g. (p, d, inr (v, refl), inr (t, refl), (w, u, g)))
    (λ p x w v g. (p, Temp (length s), inr (v, refl), inl (refl, refl), (w, (λ z. cc), g)))
    (λ d x w v g. (Temp (length s), d, inl (refl, refl), inr (v, refl), ((λ z. cc), w, g)))
covers_turn row k a b e kind c typed (BorrowsLocal _ true l) need =
    row_borrow_mutable (seen a) e (refs_of a.locals (Reference (record { mutable = true; place = record { root = Local a.number l; path = [] } }) ∷ a.stack)) c kind typed
    (length a.stack) l (pushed_at a (record { mutable = true; place = record { root = Local a.number l; path = [] } })) (λ x d g. need x d g tt)
covers_turn row k a b e kind c typed (BorrowsLocal _ false l) need =
    row_borrow_immutable (seen a) e (refs_of a.locals (Reference (record { mutable = false; place = record { root = Local a.number l; path = [] } }) ∷ a.stack)) c kind typed
    (length a.stack) l (pushed_at a (record { mutable = false; place = record { root = Local a.number l; path = [] } })) need
covers_turn row k a b e kind c typed (BorrowsField _ true f r s h m) need =
    row_field_mutable (seen a) e (refs_of a.locals (Reference (record { mutable = true; place = field_of r.place f }) ∷ s)) c kind typed (length s) f r (operand_at a s r h) (m refl)
    (replaced_at a s (Reference r) (record { mutable = true; place = field_of r.place f }) h) (λ x d g. need x d g tt)
covers_turn row k a b e kind c typed (BorrowsField _ false f r s h m) need =
    row_field_immutable (seen a) e (refs_of a.locals (Reference (record { mutable = false; place = field_of r.place f }) ∷ s)) c kind typed (length s) f r (operand_at a s r h)
    (replaced_at a s (Reference r) (record { mutable = false; place = field_of r.place f }) h) need
covers_turn row k a b e kind c typed (BorrowsGlobal _ true g t n s h acq) need =
    row_borrow_global_mutable (seen a) e (refs_of a.locals (Reference (record { mutable = true; place = record { root = Global g t; path = [] } }) ∷ s)) c kind typed
    (length s) g t acq (replaced_at a s (Plain n) (record { mutable = true; place = record { root = Global g t; path = [] } }) h) (λ x d q. need x d q tt)
covers_turn row k a b e kind c typed (BorrowsGlobal _ false g t n s h acq) need =
    row_borrow_global_immutable (seen a) e (refs_of a.locals (Reference (record { mutable = false; place = record { root = Global g t; path = [] } }) ∷ s)) c kind typed
    (length s) g t acq (replaced_at a s (Plain n) (record { mutable = false; place = record { root = Global g t; path = [] } }) h) need
covers_turn row k a b e kind c typed (Freezes _ r s h) need =
    row_freeze (seen a) e (refs_of a.locals (Reference (record { mutable = false; place = r.place }) ∷ s)) c kind typed (length s) r (operand_at a s r h)
    (replaced_at a s (Reference r) (record { mutable = false; place = r.place }) h) need
covers_turn row k a b e kind c typed (Drops _ v s h) need = row_drop (seen a) e (refs_of a.locals s) c (length s) (dropped_at a s v h)
