-- A step on references keeps the chain of frames: fields, FreezeRef, reads and writes.
use Rattle.mv_soundness.proofs.Borrows.Common.{refl, sym, ◌≡◌, ℕ, List, [], ◌∷◌, true, false, inl, ap, subst, ◌++◌, map, length, Some, None, Ok, ◌+◌, ◌-◌, Bool, not, ◌∙◌, and_from}
use Rattle.mv_soundness.proofs.Borrows.Common.{eq-eqb, not-true, same_Some, list_any, ◌==◌, slice_get, ◌&&◌, ◌||◌, filter, successors, ◌>>>◌, begins, need, Temp, Instruction}
use Rattle.mv_soundness.proofs.Borrows.Common.{MutBorrowField, ImmBorrowField, ReadRef, WriteRef, FreezeRef, ok-is, found-is, on_ok, reference_of, Frame, Turn, gives, with_top}
use Rattle.mv_soundness.proofs.Borrows.Common.{with_stack, entry, Reference, Value, Ref, TheNode, AtTemp, TheLabel, BorrowField, Need, Chain, no_edge_out, is_mutable, no_mutable_from}
use Rattle.mv_soundness.proofs.Borrows.Common.{Edge, same_node, without, inherited, Label, extended, out_of, home_of, Descending, Member, edges_of, kind_at, label_from}
use Rattle.std.proofs.lemmas.Bool.{or_right}
use Rattle.mv_edges.specs.Edges.{agrees}
use Rattle.mv_certificate_rules.specs.BorrowRules.{edges_after, position_of, field_edges, top_temp}
use Rattle.mv_machine.specs.StepStructs.{OwnStruct, own_struct}
use Rattle.mv_machine.specs.StepReferences.{borrow_field, write_reference, read_reference, freeze, own_field, lends}
use Rattle.mv_borrow_graph.proofs.Abstract.Terms.Places.{Agrees, AgreesWith, steps}
use Rattle.mv_soundness.proofs.Borrows.Same.{same-all, layer-same, write-same, plain-tagged}
use Rattle.mv_soundness.proofs.Borrows.Edges.{kind_of_node, free_mutable, then-some, none_any, node_of-inj, node-is, member_filter}
use Rattle.mv_soundness.proofs.Borrows.Kept.{Falls, falls-pushed, falls-popped, falls-same, kept-borrow-field, kept-freeze}
use Rattle.mv_machine.proofs.ReferenceRules.{borrow_field-is, read-is, write-is, freeze-is}
use Rattle.mv_soundness.proofs.Borrows.Operands.{on_result, on_option}
use Rattle.mv_soundness.proofs.Borrows.Premises.{Premises, view, Among, at_top, under, ends, StandTop, Kept, dropped-calm, typed}

agrees-begins : (l : List ℕ) (i : ℕ) → AgreesWith l i → (begins l (i ∷ []) || begins (i ∷ []) l) ≡ true
agrees-begins [] i a = refl
agrees-begins (g ∷ l) i a = or_right (begins (g ∷ l) (i ∷ [])) (begins (i ∷ []) (g ∷ l)) (and_from (i == g) true (eq-eqb i g (sym a)) refl)

label-path : (b : Bool) (path : List ℕ) → steps (label_from b path) ≡ path
label-path true path = refl
label-path false path = refl

label-agrees : (i : ℕ) (x : TheLabel) (l : Label) → x ≡ label_from l.is_open l.path → Agrees x i → agrees i l ≡ true
label-agrees i x l on a = agrees-begins l.path i (subst (λ z. AgreesWith z i) (ap steps on ∙ label-path l.is_open l.path) a)

lends-is : (m : Bool) (r : Reference) → lends m r ≡ true → m ≡ true → r.is_mutable ≡ true
lends-is true r k z = k
lends-is false r k z = absurd cc

module _ (this : Premises) where
  open this use {depends, through, no_cycle, rest, h, types, es, stands, fits, inside}
  open view this use {os, p, place}

  own-field-is : (i : ℕ) (x : OwnStruct × ℕ) → own_field h i ≡ Ok x → position_of p i ≡ Some x.1
  unfolding own_field
  own-field-is i x e =
      on_ok (entry h.home.field_handles i) _ x e (λ handle handle_is e1.
      on_ok (own_struct h handle.definition) _ x e1 (λ struct struct_is e2.
      on_ok (entry struct.fields handle.position) _ x e2 (λ field field_is e3.
      ap (λ o. o >>> λ hd. Some hd.position) (found-is (slice_get h.home.field_handles i) _ handle handle_is) ∙ ap (λ (z : OwnStruct × ℕ). Some z.1) (ok-is (struct, handle.position) x e3))))

  out-edge : (n : ℕ) (x : TheLabel) (c : TheNode) (w : edges_of place es (AtTemp n) x c) → Member w.0 (out_of (Temp n) es)
  out-edge n x c (e, m, from, on, to) = member_filter (λ d. same_node d.from (Temp n)) e es (node-is e.from (Temp n) (node_of-inj place e.from (Temp n) (sym from))) m

  free-field : (i n : ℕ) → not (list_any (λ e. agrees i e.label) (out_of (Temp n) es)) ≡ true → Need (BorrowField true i) n (kind_at p) (edges_of place es)
  free-field i n free x c w bars a =
      none_any (λ e. agrees i e.label) (out_of (Temp n) es) (not-true _ free) w.0 (out-edge n x c w) (label-agrees i x w.0.label w.3 a)

  free-field-mutable : (i n : ℕ) → not (list_any (λ e. is_mutable p e.to && agrees i e.label) (out_of (Temp n) es)) ≡ true → Need (BorrowField false i) n (kind_at p) (edges_of place es)
  free-field-mutable i n free x c w bars a =
      none_any (λ e. is_mutable p e.to && agrees i e.label) (out_of (Temp n) es) (not-true _ free) w.0 (out-edge n x c w)
      (and_from (is_mutable p w.0.to) (agrees i w.0.label) (sym (kind_of_node p place w.0.to) ∙ ap (kind_at p) (sym w.4) ∙ bars) (label-agrees i x w.0.label w.3 a))

  abbrev field_frame : Bool → ℕ → Reference → List Value → Frame
  field_frame m i r s = record (h.state.top) { stack = Ref (record { is_mutable = m; place = record (r.place) { path = r.place.path ++ i ∷ [] } }) ∷ s; at = h.state.top.at + 1 }

  field-by : (m : Bool) (i : ℕ) (r : Reference) (s : List Value) (es' : List Edge) → os ≡ Some r ∷ map reference_of s → (m ≡ true → r.is_mutable ≡ true)
      → ((n : ℕ) → n ≡ length types - 1 → Need (BorrowField m i) n (kind_at p) (edges_of place es)) → es' ≡ field_edges p i es → StandTop this (field_frame m i r s) es'
  field-by m i r s es' top lent need g =
      subst (λ u. StandTop this (field_frame m i r s) u) (sym g)
      (at_top this (λ n. without (Temp n) es ++ inherited (extended i) (Temp n) (Temp n) es) h.state.top.locals
      (Some (record { is_mutable = m; place = record (r.place) { path = r.place.path ++ i ∷ [] } }) ∷ map reference_of s) (map reference_of s) (Some r) top
      (kept-borrow-field depends through no_cycle h.function.acquires h.state.top rest h.state.top.locals os es stands m i r (map reference_of s) (kind_at p) (typed this) top lent
      (need (length (map reference_of s)) (sym (under this (map reference_of s) (Some r) top)))))

  borrow-field-by : (m : Bool) (ins : Instruction) (i f : ℕ) (y : Turn) (es' : List Edge) → Among (h.state.top.at + 1) (successors h.state.top.at ins) → borrow_field m h i ≡ Ok y
      → position_of p i ≡ Some f → es' ≡ field_edges p f es
      → ((n : ℕ) → n ≡ length types - 1 → Need (BorrowField m f) n (kind_at p) (edges_of place es)) → Kept this ins es' (Ok y)
  borrow-field-by m ins i f y es' next e position g need =
      let b = borrow_field-is m h i y e in
      let same : b.field.1 ≡ f = same_Some b.field.1 f (sym (own-field-is i b.field b.field_is) ∙ position) in
      ends this ins (with_top h.state (field_frame m b.field.1 b.reference b.below)) y es' es' b.left refl (
        subst (λ j. StandTop this (field_frame m j b.reference b.below) es') (sym same)
            (field-by m f b.reference b.below es' (ap (map reference_of) b.taken) (lends-is m b.reference b.lent) need g),
        (refl, refl, refl, same-all h.state.below, refl, next),
      )

  pub step-field-mutable : (i : ℕ) (y : Turn) (es' : List Edge) → borrow_field true h i ≡ Ok y → edges_after p (MutBorrowField i) es ≡ Some es' → Kept this (MutBorrowField i) es' (Ok y)
  unfolding edges_after
  step-field-mutable i y es' e g =
      on_option (position_of p i) _ es' g (λ f f_is g1.
      let b = then-some (not (list_any (λ e. agrees f e.label) (out_of (top_temp p) es))) (field_edges p f es) es' g1 in
      borrow-field-by true (MutBorrowField i) i f y es' (inl refl) e f_is b.1
      (λ n is. free-field f n (subst (λ k. not (list_any (λ e. agrees f e.label) (out_of (Temp k) es)) ≡ true) (sym is) b.0)))

  pub step-field-immutable : (i : ℕ) (y : Turn) (es' : List Edge) → borrow_field false h i ≡ Ok y → edges_after p (ImmBorrowField i) es ≡ Some es' → Kept this (ImmBorrowField i) es' (Ok y)
  unfolding edges_after
  step-field-immutable i y es' e g =
      on_option (position_of p i) _ es' g (λ f f_is g1.
      let b = then-some (not (list_any (λ e. is_mutable p e.to && agrees f e.label) (out_of (top_temp p) es))) (field_edges p f es) es' g1 in
      borrow-field-by false (ImmBorrowField i) i f y es' (inl refl) e f_is b.1
      (λ n is. free-field-mutable f n (subst (λ k. not (list_any (λ e. is_mutable p e.to && agrees f e.label) (out_of (Temp k) es)) ≡ true) (sym is) b.0)))

  pub step-freeze : (y : Turn) (es' : List Edge) → gives h (freeze h h.state.top.stack) ≡ Ok y → edges_after p FreezeRef es ≡ Some es' → Kept this FreezeRef es' (Ok y)
  unfolding edges_after
  step-freeze y es' e g =
      on_result (freeze h h.state.top.stack) _ y e (λ s s_is e0.
      let f = freeze-is h h.state.top.stack s s_is in
      let top : os ≡ Some f.reference ∷ map reference_of f.below = ap (map reference_of) f.taken in
      let b = then-some (no_mutable_from p (top_temp p) es) (filter (λ e. not (same_node e.from (top_temp p))) es) es' g in
      ends this FreezeRef (with_top h.state (record (h.state.top) { stack = s; at = h.state.top.at + 1 })) y (filter (λ e. not (same_node e.from (top_temp p))) es) es' e0 (sym b.1) (
        subst (λ u. StandTop this (record (h.state.top) { stack = u; at = h.state.top.at + 1 }) (filter (λ e. not (same_node e.from (top_temp p))) es)) (sym f.afterwards)
            (at_top this (λ n. filter (λ e. not (same_node e.from (Temp n))) es) h.state.top.locals
            (Some (record { is_mutable = false; place = f.reference.place }) ∷ map reference_of f.below) (map reference_of f.below) (Some f.reference) top
            (kept-freeze depends through no_cycle h.function.acquires h.state.top rest h.state.top.locals os es stands f.reference
            (map reference_of f.below) (kind_at p) (typed this) top
            (λ x c z k. free_mutable p place (Temp (length (map reference_of f.below))) es
            (subst (λ n. no_mutable_from p (Temp n) es ≡ true) (under this (map reference_of f.below) (Some f.reference) top) b.0) x c z k))),
        (refl, refl, refl, same-all h.state.below, refl, inl refl),
      ))

  pub step-read : (y : Turn) (es' : List Edge) → gives h (read_reference h h.state.top.stack) ≡ Ok y → edges_after p ReadRef es ≡ Some es' → Kept this ReadRef es' (Ok y)
  unfolding edges_after
  step-read y es' e g =
      on_result (read_reference h h.state.top.stack) _ y e (λ s s_is e0.
      let r = read-is h h.state.top.stack s s_is in
      let b = then-some (no_mutable_from p (top_temp p) es) (without (top_temp p) es) es' g in
      ends this ReadRef (with_top h.state (record (h.state.top) { stack = s; at = h.state.top.at + 1 })) y (without (top_temp p) es) es' e0 (sym b.1) (
        dropped-calm this (Ref r.reference) r.below s (h.state.top.at + 1) r.taken
            (subst (λ (x : List Value). Falls (map reference_of r.below) (map reference_of x)) (sym r.afterwards)
            (falls-pushed (map reference_of r.below) (map reference_of r.below) (reference_of r.value) (inside.led_to r.reference r.below r.value r.taken r.found)
            (falls-same (map reference_of r.below)))),
        (refl, refl, refl, same-all h.state.below, refl, inl refl),
      ))

  pub step-write : (y : Turn) (es' : List Edge) → Descending (h.state.top ∷ h.state.below) → write_reference h ≡ Ok y → edges_after p WriteRef es ≡ Some es' → Kept this WriteRef es' (Ok y)
  unfolding edges_after
  step-write y es' ordered e g =
      let x = write-is h y e in
      let old_none : reference_of x.old ≡ None = inside.led_to x.reference (x.new ∷ x.below) x.old x.taken x.found in
      let w = write-same (with_stack h.state x.below) x.reference.place x.old x.new x.next ordered x.found old_none (plain-tagged h.state x.old x.new x.tag old_none x.tag_is x.typed) x.next_is in
      let b = then-some (no_edge_out (top_temp p) es) (without (top_temp p) es) es' g in
      ends this WriteRef (with_top x.next (record (x.next.top) { at = x.next.top.at + 1 })) y (without (top_temp p) es) es' x.left (sym b.1) (
        subst (λ u. Chain depends home_of (u ∷ rest))
            (layer-same h.function.acquires [] (record (h.state.top) { stack = x.below; at = h.state.top.at + 1 })
            (record (x.next.top) { at = x.next.top.at + 1 }) (without (top_temp p) es)
            (record { number = w.0.number; function = w.0.function; entered_with = w.0.entered_with; at = ap (λ n. n + 1) w.0.at; stack = w.0.stack; locals = w.0.locals }))
            (dropped-calm this (Ref x.reference) (x.new ∷ x.below) x.below (h.state.top.at + 1) x.taken
            (falls-popped (map reference_of (x.new ∷ x.below)) (map reference_of x.below) (reference_of x.new) refl)),
        (w.0.number, w.0.function, w.0.entered_with, w.1, w.2, inl (ap (λ n. n + 1) w.0.at)),
      )
