-- A step on the storage keeps the chain of frames.
use Rattle.mv_soundness.proofs.Borrows.Common.{refl, sym, ◌≡◌, ℕ, List, [], ◌∷◌, true, false, inl, ap, subst, suc, ◌++◌, map, length, Option, Some, None, Ok, ◌+◌, ◌-◌, Bool, ◌∙◌, arith}
use Rattle.mv_soundness.proofs.Borrows.Common.{and_from, eq-eqb, same_Some, list_any, ◌==◌, successors, need, Glob, Temp, Instruction, Exists, MutBorrowGlobal, ImmBorrowGlobal, MoveFrom}
use Rattle.mv_soundness.proofs.Borrows.Common.{MoveTo, Key, reference_of, Frame, Turn, with_top, truth, Stored, Reference, Value, Ref, Kinds, TheNode, AtGlob, AtTemp, AtSlot, stack_ref}
use Rattle.mv_soundness.proofs.Borrows.Common.{TheLabel, Bars, no_edge_out, no_mutable_from, Edge, without, here, an_edge, defined, edges_of, held_as, acquires_of, kind_at}
use Rattle.std.specs.Prelude.{is_some}
use Rattle.mv_machine.specs.State.{stored_at, without_stored, with_stored}
use Rattle.mv_machine.specs.StepGlobals.{borrow_global, move_from, move_to, exists, key_at}
use Rattle.mv_certificate_rules.specs.BorrowRules.{edges_after, global_edges}
use Rattle.mv_borrow_graph.proofs.Abstract.Lists.{stack_under}
use Rattle.mv_soundness.proofs.{Borrows.Same.same-all, Borrows.Edges.free_out, Borrows.Edges.free_mutable, Borrows.Edges.then-some}
use Rattle.mv_soundness.proofs.Borrows.Kept.{falls-pushed, falls-popped, below-from, kept-falls, kept-borrow-global, kept-drop, act}
use Rattle.mv_soundness.proofs.Borrows.Premises.{Premises, view, Among, at_top, ends, calm, StandTop, StandList, Kept, size, typed}
use Rattle.mv_machine.proofs.GlobalRules.{borrow_global-is, move_from-is, move_to-is, exists-is}

module _ (this : Premises) where
  open this use {depends, through, no_cycle, rest, h, types, es, stands, fits, inside}
  open view this use {os, p, place}

  abbrev global_frame : Bool → Key → List Value → Frame
  global_frame m key s = record (h.state.top) { stack = Ref (record { is_mutable = m; place = record { root = Stored key; path = [] } }) ∷ s; at = h.state.top.at + 1 }

  own-key : (i a : ℕ) → list_any (λ z. z == i) h.function.acquires ≡ true → acquires_of place h.function.acquires (defined (key_at h i a).place (key_at h i a).index) ≡ true
  own-key i a acq = and_from (place == place) (list_any (λ z. z == i) h.function.acquires) (eq-eqb place place refl) acq

  borrow-global-by : (m : Bool) (ins : Instruction) (i : ℕ) (y : Turn) (es' : List Edge) → Among (h.state.top.at + 1) (successors h.state.top.at ins) → borrow_global m h i ≡ Ok y
      → list_any (λ z. z == i) h.function.acquires ≡ true → es' ≡ global_edges p i es
      → ((x : TheLabel) (c : TheNode) → edges_of place es (AtGlob (defined place i)) x c → Bars m (kind_at p) c → ⊥) → Kept this ins es' (Ok y)
  borrow-global-by m ins i y es' next e acq g need =
      let x = borrow_global-is m h i y e in
      let key : Key = key_at h i x.address in
      ends this ins (with_top h.state (global_frame m key x.below)) y (global_edges p i es) es' x.left (sym g) (
        at_top this (λ n. es ++ an_edge (Glob i) here (Temp n) ∷ []) h.state.top.locals
            (Some (record { is_mutable = m; place = record { root = Stored key; path = [] } }) ∷ map reference_of x.below)
            (map reference_of x.below) None (ap (map reference_of) x.taken)
            (kept-borrow-global depends through no_cycle h.function.acquires h.state.top rest h.state.top.locals os es stands m key (map reference_of x.below) (kind_at p) (typed this)
            (ap (map reference_of) x.taken) (own-key i x.address acq) refl need),
        (refl, refl, refl, same-all h.state.below, refl, next),
      )

  pub step-global-mutable : (i : ℕ) (y : Turn) (es' : List Edge) → borrow_global true h i ≡ Ok y → list_any (λ z. z == i) h.function.acquires ≡ true → edges_after p (MutBorrowGlobal i) es ≡ Some es'
      → Kept this (MutBorrowGlobal i) es' (Ok y)
  unfolding edges_after
  step-global-mutable i y es' e acq g =
      let b = then-some (no_edge_out (Glob i) es) (global_edges p i es) es' g in
      borrow-global-by true (MutBorrowGlobal i) i y es' (inl refl) e acq b.1 (λ x c z k. free_out place (Glob i) es b.0 x c z)

  pub step-global-immutable : (i : ℕ) (y : Turn) (es' : List Edge) → borrow_global false h i ≡ Ok y
      → list_any (λ z. z == i) h.function.acquires ≡ true → edges_after p (ImmBorrowGlobal i) es ≡ Some es' → Kept this (ImmBorrowGlobal i) es' (Ok y)
  unfolding edges_after
  step-global-immutable i y es' e acq g =
      let b = then-some (no_mutable_from p (Glob i) es) (global_edges p i es) es' g in
      borrow-global-by false (ImmBorrowGlobal i) i y es' (inl refl) e acq b.1 (λ x c z k. free_mutable p place (Glob i) es b.0 x c z k)

  pub step-move-from : (i : ℕ) (y : Turn) (es' : List Edge) → move_from h i ≡ Ok y → edges_after p (MoveFrom i) es ≡ Some es' → Kept this (MoveFrom i) es' (Ok y)
  unfolding edges_after
  step-move-from i y es' e g =
      let m = move_from-is h i y e in
      let b = then-some (no_edge_out (Glob i) es) es es' g in
      ends this (MoveFrom i)
      (record (h.state) { storage = without_stored h.state.storage (key_at h i m.address); top = record (h.state.top) { stack = m.value ∷ m.below; at = h.state.top.at + 1 } }) y es es' m.left (sym b.1) (
        calm this (m.value ∷ m.below) (h.state.top.at + 1)
            (falls-pushed os (map reference_of m.below) (reference_of m.value) (inside.stored (key_at h i m.address) m.value m.stored)
            (falls-popped os (map reference_of m.below) None (ap (map reference_of) m.taken))),
        (refl, refl, refl, same-all h.state.below, refl, inl refl),
      )

  -- the operands below are as the types say
  typed-under : (s : List (Option Reference)) (x : Option Reference) → os ≡ x ∷ s → Kinds (act h.function.acquires h.state.top h.state.top.locals s) (kind_at p)
  typed-under s x top (AtSlot l) r g = typed this (AtSlot l) r g
  typed-under s x top (AtTemp k) r g =
      typed this (AtTemp k) r (ap (λ o. stack_ref (map held_as o) k) top ∙ (stack_under (held_as x) (map held_as s) k r g).1)
  typed-under s x top y r g = absurd cc

  pub step-move-to : (i : ℕ) (y : Turn) (es' : List Edge) → move_to h i ≡ Ok y → edges_after p (MoveTo i) es ≡ Some es' → Kept this (MoveTo i) es' (Ok y)
  unfolding edges_after
  step-move-to i y es' e g =
      let m = move_to-is h i y e in
      let top : os ≡ reference_of m.value ∷ Some m.reference ∷ map reference_of m.below = ap (map reference_of) m.taken in
      let two : length os ≡ suc (suc (length (map reference_of m.below))) = ap length top in
      let second : length (map reference_of m.below) ≡ length types - 2 = omega (arith, two, size this) in
      let taken : StandTop this (record (h.state.top) { stack = m.below; at = h.state.top.at + 1 }) (without (Temp (length types - 2)) es) =
      subst (λ n. StandList this h.state.top.locals (map reference_of m.below) (without (Temp n) es)) second
      (kept-drop depends through no_cycle h.function.acquires h.state.top rest h.state.top.locals (Some m.reference ∷ map reference_of m.below) es
      (kept-falls depends through no_cycle h.function.acquires h.state.top rest h.state.top.locals os es stands h.state.top.locals (Some m.reference ∷ map reference_of m.below) es (λ l v r at is. at)
      (falls-popped os (Some m.reference ∷ map reference_of m.below) (reference_of m.value) top) (below-from _ _ (λ q x c e. e)))
      (Some m.reference) (map reference_of m.below) (kind_at p) (typed-under (Some m.reference ∷ map reference_of m.below) (reference_of m.value) top) refl) in
      ends this (MoveTo i)
      (record (h.state) { storage = with_stored h.state.storage (key_at h i m.address) m.value; top = record (h.state.top) { stack = m.below; at = h.state.top.at + 1 } }) y
      (without (Temp (length types - 2)) es) es' m.left
      (same_Some (without (Temp (length types - 2)) es) es' g)
      (taken, (refl, refl, refl, same-all h.state.below, refl, inl refl))

  pub step-exists : (i : ℕ) (y : Turn) (es' : List Edge) → exists h i ≡ Ok y → edges_after p (Exists i) es ≡ Some es' → Kept this (Exists i) es' (Ok y)
  unfolding edges_after
  step-exists i y es' e g =
      let x = exists-is h i y e in
      let answer : Value = truth (is_some (stored_at h.state.storage (key_at h i x.address))) in
      ends this (Exists i) (with_top h.state (record (h.state.top) { stack = answer ∷ x.below; at = h.state.top.at + 1 })) y es es' x.left (same_Some es es' g) (
        calm this (answer ∷ x.below) (h.state.top.at + 1) (falls-pushed os (map reference_of x.below) None refl (falls-popped os (map reference_of x.below) None (ap (map reference_of) x.taken))),
        (refl, refl, refl, same-all h.state.below, refl, inl refl),
      )
