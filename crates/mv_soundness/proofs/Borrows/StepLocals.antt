-- A step on a local keeps the chain of frames: copies, moves, stores and borrows.
use Rattle.mv_soundness.proofs.Borrows.Common.{refl, sym, ◌≡◌, ℕ, List, [], ◌∷◌, true, false, inl, ap, subst, zero, suc, ◌++◌, map, length, Option, Some, None, Ok, ◌+◌, Bool, ◌∙◌}
use Rattle.mv_soundness.proofs.Borrows.Common.{same_Some, none-some, slice_get, slice_set, successors, local_type, ◌>>>◌, need, Tag, Slot, Own, Temp, Instruction, CopyLoc, MoveLoc}
use Rattle.mv_soundness.proofs.Borrows.Common.{StLoc, MutBorrowLoc, ImmBorrowLoc, Token, Plain, ReferenceTo, MutableReferenceTo, found-is, on_ok, reference_of, Frame, Turn, with_top}
use Rattle.mv_soundness.proofs.Borrows.Common.{tag_named, entry, Reference, Value, Ref, TheNode, AtOwn, TheLabel, Bars, no_edge_out, no_mutable_from, Edge, without, inherited, here}
use Rattle.mv_soundness.proofs.Borrows.Common.{renamed, an_edge, token_kind, operand_kind, edges_of, kind_at}
use Rattle.mv_move_types.specs.Module.{local_tokens}
use Rattle.mv_machine.specs.Typing.{linked}
use Rattle.mv_machine.specs.StepLocals.{copy_local, move_local, store_local, borrow_local, local_place, local_tag}
use Rattle.mv_certificate_rules.specs.BorrowRules.{edges_after, copy_edges, move_edges, store_edges}
use Rattle.mv_soundness.proofs.{Borrows.Same.same-all, Borrows.Edges.free_out, Borrows.Edges.free_mutable, Borrows.Edges.then-some, Borrows.Mutability.operand-plain}
use Rattle.mv_soundness.proofs.{Borrows.Operands.on_option, Borrows.Operands.tag-kind}
use Rattle.mv_soundness.proofs.Borrows.Kept.{falls-pushed, falls-popped, falls-same, below-from, kept-falls, kept-copy, kept-copy-mutable, kept-move, kept-store, kept-borrow-local}
use Rattle.mv_soundness.proofs.Borrows.Premises.{Premises, view, Among, at_next, at_top, local-kind, ends, calm, StandTop, Kept, typed}
use Rattle.mv_machine.proofs.LocalRules.{copy-is, move-is, store-is, borrow-is}

kind-some : (o : Option Reference) (b : Bool) → Some b ≡ operand_kind o → (r : Reference) × (o ≡ Some r) × (r.is_mutable ≡ b)
kind-some None b e = absurd cc
kind-some (Some r) b e = (r, refl, sym (same_Some b r.is_mutable e))

set-none : (xs : List (Option Value)) (l m : ℕ) (o : Option Value) (v : Value) (r : Reference) → ((w : Value) → o ≡ Some w → reference_of w ≡ None) → slice_get (slice_set xs l o) m ≡ Some (Some v)
    → reference_of v ≡ Some r → slice_get xs m ≡ Some (Some v)
set-none [] l m o v r none at is = absurd cc
set-none (x ∷ xs) zero zero o v r none at is = absurd (none-some r (sym (none v (same_Some o (Some v) at)) ∙ is))
set-none (x ∷ xs) (suc l) (suc m) o v r none at is = set-none xs l m o v r none at is
set-none (x ∷ xs) l m o v r none at is = at

no-value : (w : Value) → None ≡ Some w → reference_of w ≡ None
no-value w z = absurd cc

module _ (this : Premises) where
  open this use {depends, through, no_cycle, rest, h, types, es, stands, fits, inside}
  open view this use {os, p, place}

  copy-by : (l : ℕ) (v : Value) (es' : List Edge) (t : Token) → slice_get h.state.top.locals l ≡ Some (Some v) → token_kind t ≡ operand_kind (reference_of v) → copy_edges p l t es ≡ Some es'
      → StandTop this (record (h.state.top) { stack = v ∷ h.state.top.stack; at = h.state.top.at + 1 }) es'
  copy-by l v es' (Plain t) at k g =
      subst (λ u. StandTop this (record (h.state.top) { stack = v ∷ h.state.top.stack; at = h.state.top.at + 1 }) u) (sym (then-some (no_mutable_from p (Own l) es) es es' g).1)
      (calm this (v ∷ h.state.top.stack) (h.state.top.at + 1) (falls-pushed os os (reference_of v) (operand-plain (Plain t) (reference_of v) k refl) (falls-same os)))
  copy-by l v es' (ReferenceTo t) at k g =
      let r = kind-some (reference_of v) false k in
      subst (λ u. StandTop this (record (h.state.top) { stack = v ∷ h.state.top.stack; at = h.state.top.at + 1 }) u) (same_Some _ es' g)
      (at_next this (λ n. es ++ inherited (λ label. label) (Slot l) (Temp n) es) h.state.top.locals (reference_of v ∷ os)
      (kept-copy depends through no_cycle h.function.acquires h.state.top rest h.state.top.locals os es stands l v r.0 (kind_at p) (typed this) at r.1 r.2))
  copy-by l v es' (MutableReferenceTo t) at k g =
      let r = kind-some (reference_of v) true k in
      let b = then-some (no_edge_out (Slot l) es) _ es' g in
      subst (λ u. StandTop this (record (h.state.top) { stack = v ∷ h.state.top.stack; at = h.state.top.at + 1 }) u) (sym b.1)
      (at_next this (λ n. es ++ inherited (λ label. label) (Slot l) (Temp n) es ++ an_edge (Slot l) here (Temp n) ∷ []) h.state.top.locals (reference_of v ∷ os)
      (kept-copy-mutable depends through no_cycle h.function.acquires h.state.top rest h.state.top.locals os es stands l v r.0 (kind_at p) (typed this) at r.1 r.2 (free_out place (Slot l) es b.0)))

  pub step-copy : (l : ℕ) (y : Turn) (es' : List Edge) → copy_local h l ≡ Ok y → edges_after p (CopyLoc l) es ≡ Some es' → Kept this (CopyLoc l) es' (Ok y)
  unfolding edges_after
  step-copy l y es' e g =
      let c = copy-is h l y e in
      on_option (local_type h.home h.function l) _ es' g (λ t t_is g1.
      ends this (CopyLoc l) (with_top h.state (record (h.state.top) { stack = c.value ∷ h.state.top.stack; at = h.state.top.at + 1 })) y es' es' c.left refl
      (copy-by l c.value es' t c.stands (local-kind this l c.value t c.stands t_is) g1, (refl, refl, refl, same-all h.state.below, refl, inl refl)))

  abbrev moved_frame : ℕ → Value → Frame
  moved_frame l v = record (h.state.top) { stack = v ∷ h.state.top.stack; at = h.state.top.at + 1; locals = slice_set h.state.top.locals l None }

  move-by : (l : ℕ) (v : Value) (es' : List Edge) (t : Token) → slice_get h.state.top.locals l ≡ Some (Some v) → token_kind t ≡ operand_kind (reference_of v) → move_edges p l t es ≡ Some es'
      → StandTop this (moved_frame l v) es'
  move-by l v es' (Plain t) at k g =
      subst (λ u. StandTop this (moved_frame l v) u) (sym (then-some (no_edge_out (Own l) es) es es' g).1)
      (kept-falls depends through no_cycle h.function.acquires h.state.top rest h.state.top.locals os es stands (slice_set h.state.top.locals l None) (reference_of v ∷ os) es
      (λ m w r. set-none h.state.top.locals l m None w r no-value)
      (falls-pushed os os (reference_of v) (operand-plain (Plain t) (reference_of v) k refl) (falls-same os)) (below-from _ _ (λ q x c e. e)))
  move-by l v es' t at k g =
      let r = kind-some (reference_of v) _ k in
      subst (λ u. StandTop this (moved_frame l v) u) (same_Some _ es' g)
      (at_next this (λ n. renamed (Slot l) (Temp n) es) (slice_set h.state.top.locals l None) (reference_of v ∷ os)
      (kept-move depends through no_cycle h.function.acquires h.state.top rest h.state.top.locals os es stands l v r.0 (kind_at p) (typed this) at r.1))

  pub step-move : (l : ℕ) (y : Turn) (es' : List Edge) → move_local h l ≡ Ok y → edges_after p (MoveLoc l) es ≡ Some es' → Kept this (MoveLoc l) es' (Ok y)
  unfolding edges_after
  step-move l y es' e g =
      let m = move-is h l y e in
      on_option (local_type h.home h.function l) _ es' g (λ t t_is g1.
      ends this (MoveLoc l) (with_top h.state (moved_frame l m.value)) y es' es' m.left refl
      (move-by l m.value es' t m.stands (local-kind this l m.value t m.stands t_is) g1, (refl, refl, refl, same-all h.state.below, refl, inl refl)))

  abbrev stored_frame : ℕ → Value → List Value → Frame
  stored_frame l v s = record (h.state.top) { stack = s; at = h.state.top.at + 1; locals = slice_set h.state.top.locals l (Some v) }

  store-by : (l : ℕ) (v : Value) (s : List Value) (es' : List Edge) (t : Token) → os ≡ reference_of v ∷ map reference_of s
      → token_kind t ≡ operand_kind (reference_of v) → store_edges p l t es ≡ Some es' → StandTop this (stored_frame l v s) es'
  store-by l v s es' (Plain t) top k g =
      subst (λ u. StandTop this (stored_frame l v s) u) (sym (then-some (no_edge_out (Own l) es) es es' g).1)
      (kept-falls depends through no_cycle h.function.acquires h.state.top rest h.state.top.locals os es stands (slice_set h.state.top.locals l (Some v)) (map reference_of s) es
      (λ m w r. set-none h.state.top.locals l m (Some v) w r (λ u z. ap reference_of (sym (same_Some v u z)) ∙ operand-plain (Plain t) (reference_of v) k refl))
      (falls-popped os (map reference_of s) (reference_of v) top) (below-from _ _ (λ q x c e. e)))
  store-by l v s es' t top k g =
      let r = kind-some (reference_of v) _ k in
      subst (λ u. StandTop this (stored_frame l v s) u) (same_Some _ es' g)
      (at_top this (λ n. renamed (Temp n) (Slot l) (without (Slot l) es)) (slice_set h.state.top.locals l (Some v)) (map reference_of s) (map reference_of s) (reference_of v) top
      (kept-store depends through no_cycle h.function.acquires h.state.top rest h.state.top.locals os es stands l v r.0 (map reference_of s) (kind_at p) (typed this)
      (top ∙ ap (λ (x : Option Reference). x ∷ map reference_of s) r.1) r.1))

  local-tag-is : (l : ℕ) (tag : Tag) → local_tag h l ≡ Ok tag → (t : Token) × (local_type h.home h.function l ≡ Some t) × (tag_named h.modules h.home t ≡ Ok tag)
  local-tag-is l tag e =
      on_ok (linked (local_tokens h.home h.function)) _ tag e (λ tokens tokens_is e1.
      on_ok (entry tokens l) _ tag e1 (λ t t_is e2.
      (t, ap (λ o. o >>> λ tokens. slice_get tokens l) (found-is (local_tokens h.home h.function) _ tokens tokens_is) ∙ found-is (slice_get tokens l) _ t t_is, e2)))

  pub step-store : (l : ℕ) (y : Turn) (es' : List Edge) → store_local h l ≡ Ok y → edges_after p (StLoc l) es ≡ Some es' → Kept this (StLoc l) es' (Ok y)
  unfolding edges_after
  step-store l y es' e g =
      let x = store-is h l y e in
      on_option (local_type h.home h.function l) _ es' g (λ t t_is g1.
      let u = local-tag-is l x.tag x.tag_is in
      ends this (StLoc l) (with_top h.state (stored_frame l x.value x.below)) y es' es' x.left refl (
        store-by l x.value x.below es' t (ap (map reference_of) x.taken)
            (ap token_kind (same_Some t u.0 (sym t_is ∙ u.1)) ∙ tag-kind h.modules h.home h.state x.value u.0 x.tag u.2 x.typed) g1,
        (refl, refl, refl, same-all h.state.below, refl, inl refl),
      ))

  -- ---- borrows
  abbrev borrowed_local : Bool → ℕ → Frame
  borrowed_local m l = record (h.state.top) { stack = Ref (record { is_mutable = m; place = local_place h l }) ∷ h.state.top.stack; at = h.state.top.at + 1 }

  local-borrowed : (m : Bool) (l : ℕ) → ((x : TheLabel) (c : TheNode) → edges_of place es (AtOwn l) x c → Bars m (kind_at p) c → ⊥)
      → StandTop this (borrowed_local m l) (es ++ an_edge (Own l) here (Temp (length types)) ∷ [])
  local-borrowed m l need =
      at_next this (λ n. es ++ an_edge (Own l) here (Temp n) ∷ []) h.state.top.locals (Some (record { is_mutable = m; place = local_place h l }) ∷ os)
      (kept-borrow-local depends through no_cycle h.function.acquires h.state.top rest h.state.top.locals os es stands m l (kind_at p) (typed this) need)

  borrow-local-by : (m : Bool) (i : Instruction) (l : ℕ) (y : Turn) (es' : List Edge) → Among (h.state.top.at + 1) (successors h.state.top.at i) → borrow_local m h l ≡ Ok y
      → es' ≡ es ++ an_edge (Own l) here (Temp (length types)) ∷ []
      → ((x : TheLabel) (c : TheNode) → edges_of place es (AtOwn l) x c → Bars m (kind_at p) c → ⊥) → Kept this i es' (Ok y)
  borrow-local-by m i l y es' next e g need =
      ends this i (with_top h.state (borrowed_local m l)) y (es ++ an_edge (Own l) here (Temp (length types)) ∷ []) es' (borrow-is m h l y e).left (sym g)
      (local-borrowed m l need, (refl, refl, refl, same-all h.state.below, refl, next))

  pub step-borrow-mutable : (l : ℕ) (y : Turn) (es' : List Edge) → borrow_local true h l ≡ Ok y → edges_after p (MutBorrowLoc l) es ≡ Some es' → Kept this (MutBorrowLoc l) es' (Ok y)
  unfolding edges_after
  step-borrow-mutable l y es' e g =
      let b = then-some (no_edge_out (Own l) es) (es ++ an_edge (Own l) here (Temp (length types)) ∷ []) es' g in
      borrow-local-by true (MutBorrowLoc l) l y es' (inl refl) e b.1 (λ x c z k. free_out place (Own l) es b.0 x c z)

  pub step-borrow-immutable : (l : ℕ) (y : Turn) (es' : List Edge) → borrow_local false h l ≡ Ok y → edges_after p (ImmBorrowLoc l) es ≡ Some es' → Kept this (ImmBorrowLoc l) es' (Ok y)
  unfolding edges_after
  step-borrow-immutable l y es' e g =
      let b = then-some (no_mutable_from p (Own l) es) (es ++ an_edge (Own l) here (Temp (length types)) ∷ []) es' g in
      borrow-local-by false (ImmBorrowLoc l) l y es' (inl refl) e b.1 (λ x c z k. free_mutable p place (Own l) es b.0 x c z k)
