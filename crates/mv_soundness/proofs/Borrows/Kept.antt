-- A step of the frame at work keeps the chain of frames: one lemma a row, at the machine's lists.
use Rattle.mv_soundness.proofs.Borrows.Common.{refl, sym, ◌≡◌, ℕ, List, [], ◌∷◌, true, false, inl, inr, ap, subst, ◌++◌, map, length, Option, Some, None, Bool, not, ◌∙◌, arith, ◌<◌}
use Rattle.mv_soundness.proofs.Borrows.Common.{eqb_tells, length-map, same_Some, none-some, slice_get, slice_set, filter, Slot, Own, Glob, Temp, Key, reference_of, Frame, Stored}
use Rattle.mv_soundness.proofs.Borrows.Common.{Reference, Value, Local, layer, EdgesBelow, Kinds, chain_steps, TheNode, AtOwn, AtGlob, AtTemp, TheRef, Live, AtSlot, Edges, TheValue}
use Rattle.mv_soundness.proofs.Borrows.Common.{seen_frame, Activation, set_local, TheLabel, LabelBelow, Bars, BorrowField, Need, Chain, Layer, Edge, same_node, without, inherited, here}
use Rattle.mv_soundness.proofs.Borrows.Common.{renamed, an_edge, extended, home_of, ref_of, defined, local_of, edges_of, held_as, activation, acquires_of}
use Rattle.mv_borrow_graph.proofs.{Abstract.Terms.Places.Exact, Abstract.Terms.Places.Open, Abstract.Terms.Lists.Reference as Held, Abstract.Terms.Lists.refs_of}
use Rattle.mv_borrow_graph.proofs.Abstract.Terms.Rows.{Row, CopyRef, CopyMut, MoveRef, StoreRef, BorrowLocal, BorrowGlobal, Freeze, Drop, After}
use Rattle.mv_borrow_graph.proofs.{Abstract.Places.begins_self, Abstract.Run.ByRow, Abstract.Run.ByValue}
use Rattle.mv_borrow_graph.proofs.Abstract.Turns.{Turn, Copies, CopiesMutable, Moves, Stores, BorrowsLocal, BorrowsField, BorrowsGlobal, Freezes, Drops}
use Rattle.mv_soundness.proofs.Borrows.Edges.{Included}
use Rattle.mv_soundness.proofs.Borrows.Lists.{place_get, stack-seen, stack-back, local-back, local-seen, set-map}
use Rattle.mv_soundness.proofs.Borrows.EdgeRows.{copy_in, copy_mutable_in, borrow_in, drop_in, field_in, freeze_in, move_in, store_in}

pub label-self : (x : TheLabel) → LabelBelow x x
label-self (Exact l) = refl
label-self (Open l) = begins_self l

pub below-from : (e f : Edges) → Included e f → EdgesBelow e f
below-from e f h p x c g = (x, label-self x, h p x c g)

-- no reference comes: what stands on the new operands stood at its place on the old ones
abbrev pub Falls : List (Option Reference) → List (Option Reference) → Type 0
Falls os new = (k : ℕ) (r : Reference) → place_get new k ≡ Some (Some r) → place_get os k ≡ Some (Some r)

place-short : (os : List (Option Reference)) (k : ℕ) (o : Option Reference) → place_get os k ≡ Some o → k < length os
place-short [] k o h = absurd cc
place-short (x ∷ os) k o h =
    elim (eqb_tells k (length os)) [
      | inl t ↦ let e = t.1 in omega arith
      | inr t ↦ let e : k < length os = place-short os k o (rw t.0 at h) in omega arith
    ]

pub place-under : (x : Option Reference) (os : List (Option Reference)) (k : ℕ) (o : Option Reference) → place_get os k ≡ Some o → place_get (x ∷ os) k ≡ Some o
place-under x os k o h =
    let e : k < length os = place-short os k o h in
    elim (eqb_tells k (length os)) [
      | inl t ↦ let d = t.1 in absurd (omega arith)
      | inr t ↦ rw t.0 h
    ]

pub falls-popped : (os new : List (Option Reference)) (x : Option Reference) → os ≡ x ∷ new → Falls os new
falls-popped os new x h k r g = ap (λ l. place_get l k) h ∙ place-under x new k (Some r) g

pub falls-pushed : (os new : List (Option Reference)) (x : Option Reference) → x ≡ None → Falls os new → Falls os (x ∷ new)
falls-pushed os new x h falls k r g =
    elim (eqb_tells k (length new)) [
      | inl t ↦ absurd (none-some r (sym h ∙ same_Some x (Some r) (rw t.0 at g)))
      | inr t ↦ falls k r (rw t.0 at g)
    ]

pub falls-then : (a b c : List (Option Reference)) → Falls a b → Falls b c → Falls a c
falls-then a b c h g k r e = h k r (g k r e)

pub falls-same : (a : List (Option Reference)) → Falls a a
falls-same a k r e = e

-- what the borrow theory sees of a frame with these locals and operands
abbrev pub act : List ℕ → Frame → List (Option Value) → List (Option Reference) → Activation
act acquires f locals os = record {
  number = f.number;
  home = f.function.place;
  acquires = acquires_of f.function.place acquires;
  entry = (activation acquires (record { frame = f; lent = [] })).entry;
  locals = map local_of locals;
  stack = map held_as os;
}

module _ (depends : ℕ → ℕ → Type 0) (through : (a b c : ℕ) → depends a b → depends b c → depends a c) (no_cycle : (a : ℕ) → depends a a → ⊥)
    (acquires : List ℕ) (f : Frame) (rest : List Layer)
  where
    -- the chain with the frame at work on top
    abbrev pub Stand : List (Option Value) → List (Option Reference) → List Edge → Type 1
    Stand locals os es = Chain depends home_of (layer (act acquires f locals os) (edges_of f.function.place es) ∷ rest)

    module _ (locals : List (Option Value)) (os : List (Option Reference)) (es : List Edge) (stands : Stand locals os es) where
      abbrev before : Activation
      before = act acquires f locals os

      abbrev E : List Edge → Edges
      E = edges_of f.function.place

      row : (r : Row) (k : ℕ) (b : Activation) (kind : TheNode → Bool) (es' : List Edge) → Turn r k before b → Kinds before kind → Need r k kind (E es)
          → Included (After r k (E es)) (E es') → Chain depends home_of (layer b (E es') ∷ rest)
      row r k b kind es' turn typed need below =
          chain_steps depends home_of through no_cycle (layer before (E es) ∷ rest) (layer b (E es') ∷ rest)
          (ByRow r k before b (E es) (E es') kind rest turn typed need (below-from (After r k (E es)) (E es') below)) stands

      -- a row by which no reference comes
      pub kept-falls : (locals' : List (Option Value)) (os' : List (Option Reference)) (es' : List Edge)
          → ((l : ℕ) (v : Value) (r : Reference) → slice_get locals' l ≡ Some (Some v) → reference_of v ≡ Some r → slice_get locals l ≡ Some (Some v))
          → Falls os os' → EdgesBelow (E es) (E es') → Stand locals' os' es'
      kept-falls locals' os' es' stay falls below =
          chain_steps depends home_of through no_cycle (layer before (E es) ∷ rest) (layer (act acquires f locals' os') (E es') ∷ rest)
          (ByValue before (map local_of locals') (map held_as os') (E es) (E es') rest old below) stands
        where
          old : (n : TheNode) (r : TheRef) → refs_of (map local_of locals') (map held_as os') n ≡ Some r → Live (seen_frame before) n r
          old (AtSlot l) r h = let t = local-back locals' l r h in local-seen locals l t.0 t.1 (stay l t.0 t.1 t.2 t.3) t.3 ∙ ap Some (sym t.4)
          old (AtTemp k) r h = let t = stack-back os' k r h in stack-seen os k t.0 (falls k t.0 t.1) ∙ ap Some (sym t.2)
          old n r h = absurd cc

      height : length (map held_as os) ≡ length os
      height = length-map os held_as

      -- the operands of one row are those of another
      moved : (b : List (Option Reference)) (c : List (Option Reference)) (locals' : List (Option Value)) (es' : List Edge) → b ≡ c → Stand locals' b es' → Stand locals' c es'
      moved b c locals' es' h s = subst (λ x. Stand locals' x es') h s

      pub kept-copy : (l : ℕ) (v : Value) (r : Reference) (kind : TheNode → Bool) → Kinds before kind → slice_get locals l ≡ Some (Some v) → reference_of v ≡ Some r
          → r.is_mutable ≡ false → Stand locals (reference_of v ∷ os) (es ++ inherited (λ label. label) (Slot l) (Temp (length os)) es)
      kept-copy l v r kind typed at is immutable =
          moved (Some r ∷ os) (reference_of v ∷ os) locals _ (ap (λ (x : Option Reference). x ∷ os) (sym is))
          (row (CopyRef l) (length (map held_as os)) _ kind _ (Copies before l (ref_of r) (local-seen locals l v r at is) immutable) typed tt
          (rw height (copy_in f.function.place l (length os) es)))

      pub kept-copy-mutable : (l : ℕ) (v : Value) (r : Reference) (kind : TheNode → Bool) → Kinds before kind → slice_get locals l ≡ Some (Some v) → reference_of v ≡ Some r
          → r.is_mutable ≡ true → ((x : TheLabel) (c : TheNode) → E es (AtSlot l) x c → ⊥)
          → Stand locals (reference_of v ∷ os) (es ++ inherited (λ label. label) (Slot l) (Temp (length os)) es ++ an_edge (Slot l) here (Temp (length os)) ∷ [])
      kept-copy-mutable l v r kind typed at is mutable need =
          moved (Some r ∷ os) (reference_of v ∷ os) locals _ (ap (λ (x : Option Reference). x ∷ os) (sym is))
          (row (CopyMut l) (length (map held_as os)) _ kind _ (CopiesMutable before l (ref_of r) (local-seen locals l v r at is) mutable) typed need
          (rw height (copy_mutable_in f.function.place l (length os) es)))

      in_locals : (new : List (Option TheValue)) (locals' : List (Option Value)) (stack : List TheValue) (es' : List Edge) → new ≡ map local_of locals'
          → Chain depends home_of (layer (record before { locals = new; stack = stack }) (E es') ∷ rest)
          → Chain depends home_of (layer (record before { locals = map local_of locals'; stack = stack }) (E es') ∷ rest)
      in_locals new locals' stack es' h s = subst (λ x. Chain depends home_of (layer (record before { locals = x; stack = stack }) (E es') ∷ rest)) h s

      pub kept-move : (l : ℕ) (v : Value) (r : Reference) (kind : TheNode → Bool) → Kinds before kind → slice_get locals l ≡ Some (Some v) → reference_of v ≡ Some r
          → Stand (slice_set locals l None) (reference_of v ∷ os) (renamed (Slot l) (Temp (length os)) es)
      kept-move l v r kind typed at is =
          moved (Some r ∷ os) (reference_of v ∷ os) (slice_set locals l None) _ (ap (λ (x : Option Reference). x ∷ os) (sym is))
          (in_locals (set_local (map local_of locals) l None) (slice_set locals l None) (map held_as (Some r ∷ os)) (renamed (Slot l) (Temp (length os)) es) (sym (set-map locals l None))
          (row (MoveRef l) (length (map held_as os)) _ kind _ (Moves before l (ref_of r) (local-seen locals l v r at is)) typed tt
          (rw height (move_in f.function.place l (length os) es))))

      on_top : (o : Option Reference) (s : List (Option Reference)) → os ≡ o ∷ s → map held_as os ≡ held_as o ∷ map held_as s
      on_top o s h = ap (map held_as) h

      pub kept-store : (l : ℕ) (v : Value) (r : Reference) (s : List (Option Reference)) (kind : TheNode → Bool) → Kinds before kind → os ≡ Some r ∷ s → reference_of v ≡ Some r
          → Stand (slice_set locals l (Some v)) s (renamed (Temp (length s)) (Slot l) (without (Slot l) es))
      kept-store l v r s kind typed top is =
          in_locals (set_local (map local_of locals) l (Some (Held (ref_of r)))) (slice_set locals l (Some v)) (map held_as s) (renamed (Temp (length s)) (Slot l) (without (Slot l) es))
          (ap (λ (o : Option Reference). set_local (map local_of locals) l (Some (held_as o))) (sym is) ∙ sym (set-map locals l (Some v)))
          (row (StoreRef l) (length (map held_as s)) _ kind _ (Stores before l (ref_of r) (map held_as s) (on_top (Some r) s top)) typed tt
          (rw (length-map s held_as) (store_in f.function.place l (length s) es)))

      pub kept-borrow-local : (m : Bool) (l : ℕ) (kind : TheNode → Bool) → Kinds before kind → ((x : TheLabel) (c : TheNode) → E es (AtOwn l) x c → Bars m kind c → ⊥)
          → Stand locals (Some (record { is_mutable = m; place = record { root = Local f.number l; path = [] } }) ∷ os) (es ++ an_edge (Own l) here (Temp (length os)) ∷ [])
      kept-borrow-local m l kind typed need =
          row (BorrowLocal m l) (length (map held_as os)) _ kind _ (BorrowsLocal before m l) typed need (rw height (borrow_in f.function.place (length os) (Own l) es))

      pub kept-borrow-field : (m : Bool) (i : ℕ) (r : Reference) (s : List (Option Reference)) (kind : TheNode → Bool) → Kinds before kind → os ≡ Some r ∷ s → (m ≡ true → r.is_mutable ≡ true)
          → Need (BorrowField m i) (length s) kind (E es)
          → Stand locals (Some (record { is_mutable = m; place = record { root = r.place.root; path = r.place.path ++ i ∷ [] } }) ∷ s)
          (without (Temp (length s)) es ++ inherited (extended i) (Temp (length s)) (Temp (length s)) es)
      kept-borrow-field m i r s kind typed top lends need =
          row (BorrowField m i) (length (map held_as s)) _ kind _ (BorrowsField before m i (ref_of r) (map held_as s) (on_top (Some r) s top) lends) typed (rw (length-map s held_as) need)
          (rw (length-map s held_as) (field_in f.function.place i (length s) es))

      pub kept-borrow-global : (m : Bool) (key : Key) (s : List (Option Reference)) (kind : TheNode → Bool) → Kinds before kind → os ≡ None ∷ s
          → acquires_of f.function.place acquires (defined key.place key.index) ≡ true → key.place ≡ f.function.place
          → ((x : TheLabel) (c : TheNode) → E es (AtGlob (defined f.function.place key.index)) x c → Bars m kind c → ⊥)
          → Stand locals (Some (record { is_mutable = m; place = record { root = Stored key; path = [] } }) ∷ s) (es ++ an_edge (Glob key.index) here (Temp (length s)) ∷ [])
      kept-borrow-global m key s kind typed top acq home need =
          row (BorrowGlobal m (defined key.place key.index)) (length (map held_as s)) _ kind _
          (BorrowsGlobal before m key.address (defined key.place key.index) 0 (map held_as s) (on_top None s top) acq) typed
          (λ x c h. need x c (subst (λ (w : ℕ). E es (AtGlob (defined w key.index)) x c) home h))
          (rw (length-map s held_as, home) (borrow_in f.function.place (length s) (Glob key.index) es))

      pub kept-freeze : (r : Reference) (s : List (Option Reference)) (kind : TheNode → Bool) → Kinds before kind → os ≡ Some r ∷ s
          → Need Freeze (length s) kind (E es)
          → Stand locals (Some (record { is_mutable = false; place = r.place }) ∷ s) (filter (λ e. not (same_node e.from (Temp (length s)))) es)
      kept-freeze r s kind typed top need =
          row Freeze (length (map held_as s)) _ kind _ (Freezes before (ref_of r) (map held_as s) (on_top (Some r) s top)) typed (rw (length-map s held_as) need)
          (rw (length-map s held_as) (freeze_in f.function.place (length s) es))

      pub kept-drop : (o : Option Reference) (s : List (Option Reference)) (kind : TheNode → Bool) → Kinds before kind → os ≡ o ∷ s
          → Stand locals s (without (Temp (length s)) es)
      kept-drop o s kind typed top =
          row Drop (length (map held_as s)) _ kind _ (Drops before (held_as o) (map held_as s) (on_top o s top)) typed tt (rw (length-map s held_as) (drop_in f.function.place (length s) es))
