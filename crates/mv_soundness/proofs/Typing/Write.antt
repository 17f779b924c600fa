-- The row of a write through a reference.
use Rattle.mv_soundness.proofs.Typing.Common.{◌≡◌, ℕ, ◌+◌, true, List, [], ◌∷◌, refl, ap, subst, ◌∙◌, arith, Option, Some, Bool, false, sym, inl, inr, cond, map, eqb, eqb-true}
use Rattle.mv_soundness.proofs.Typing.Common.{same_Some, ok_or, option_and_then, option_map, need, Tag, StructTag, Instruction, Key, Token, Plain, MutableReferenceTo, references}
use Rattle.mv_soundness.proofs.Typing.Common.{local_references, Frame, State, frames, root_value, local_in, local_value, stored_at, with_stored, same_key, with_local, Here, operand}
use Rattle.mv_soundness.proofs.Typing.Common.{as_reference, follow, with_stack, goes_on, untouched, can_drop, Faults, LostFault, DanglingFault, has_tag, tag_of, TypeFault, Value, Root}
use Rattle.mv_soundness.proofs.Typing.Common.{Local, Stored, Reference, Place, with_value_at, on_bind, same_key-to, Types, taken, top_type, mutable_target_of, TypesAt, Row, Roots}
use Rattle.mv_soundness.proofs.Typing.Common.{Rooted, IsOf, HasType, HaveTokens, LocalsHaveTokens, Numbered, AreWaiting, TurnTyped, EntryTyped, value_type_abilities}
use Rattle.mv_machine.specs.{State.with_root, State.with_place, StepReferences.write_reference}
use Rattle.mv_type_rules.specs.TypeRules.{of_write}
use Rattle.mv_soundness.specs.Typing.HasType.{fields_by_name}
use Rattle.mv_soundness.proofs.{Typing.Within.one_type, Typing.Within.write_within, Typing.References.mutable_one, Typing.References.mutable_target-is, Typing.Stays.moved}
use Rattle.mv_soundness.proofs.{Typing.Stays.top_typed}
use Rattle.mv_soundness.proofs.Typing.Parts.{Part, known, passes, tested, lost, frozen}
use Rattle.mv_soundness.proofs.Typing.Operands.{on_test, taken-is, top_type-is, one_operand}
use Rattle.mv_soundness.proofs.Typing.Keep.{Kept, Nothing, avoid_nothing, below_avoids_nothing, keep_stack, keep_locals, keep_below}
use Rattle.mv_soundness.proofs.Typing.Roots.{place_of, typed_tag, typed_has_tag, is_plain, plain_is, named_plain}
use Rattle.mv_soundness.proofs.Typing.Frames.{written_below, written_in, frame_written, below_written}
use Rattle.mv_soundness.proofs.Typing.Storage.{entry_of, stored_same, stored_other, stored_typed, typed_with}
use Rattle.std.proofs.lemmas.Bool.{cases_Bool}

-- what a root holds has nothing to do with the operands
pub root-stack : (s : State) (stack : List Value) (root : Root) → root_value (with_stack s stack) root ≡ root_value s root
root-stack s stack (Local n l) = refl
root-stack s stack (Stored key) = refl

-- the numbers stay
pub numbers_stay : (n l : ℕ) (v : Value) (bound : ℕ) (fs : List Frame) → Numbered bound fs → Numbered bound (map (with_local n l v) fs)
numbers_stay n l v bound [] h = tt
numbers_stay n l v bound (f ∷ fs) h =
    elim (cases_Bool (eqb f.number n)) [ inl p ↦ rw p (h.0, numbers_stay n l v f.number fs h.1) | inr p ↦ rw p (h.0, numbers_stay n l v f.number fs h.1) ]

module _ (h : Here) (i : Instruction) (types after : Types) (row : Row h i types after) (next : TypesAt h.home h.function (h.state.top.at + 1) after) (old new : Value) (base : Tag)
    (old_typed : IsOf (fields_by_name h.modules) old base) (new_typed : IsOf (fields_by_name h.modules) new base)
    (rest : List Value) (rest_typed : HaveTokens h.modules (root_value h.state) h.home rest after) where
  -- the state with this frame at work and a local written below it
  abbrev over : ℕ → ℕ → Frame → State
  over n l f = record (h.state) { top = f; below = map (with_local n l new) h.state.below }

  abbrev lower_top : Frame
  lower_top = record (h.state.top) { stack = rest }

  below_all : (n l : ℕ) (look : Roots) → local_in (frames h.state) n l ≡ Some old
      → AreWaiting h.modules look h.state.top.entered_with row.stands.results h.state.below
      → AreWaiting h.modules look h.state.top.entered_with row.stands.results (map (with_local n l new) h.state.below)
  below_all n l look there w = by_case (eqb h.state.top.number n) refl
    where
      by_case : (a : Bool) → eqb h.state.top.number n ≡ a → AreWaiting h.modules look h.state.top.entered_with row.stands.results (map (with_local n l new) h.state.below)
      by_case true p =
          let same : h.state.top.number ≡ n = eqb-true h.state.top.number n p in
          subst (λ (fs : List Frame). AreWaiting h.modules look h.state.top.entered_with row.stands.results fs)
          (sym (written_below n l new h.state.top.number h.state.below row.stands.numbered.1 (omega (arith, same)))) w
      by_case false p =
          let below : local_in h.state.below n l ≡ Some old = subst (λ (x : Bool). cond x (local_value h.state.top l) (local_in h.state.below n l) ≡ Some old) p there in
          below_written h.modules n l old new base old_typed new_typed look h.state.top.number h.state.top.entered_with row.stands.results h.state.below row.stands.numbered.1 below w

  write_local : (n l : ℕ) → local_in (frames h.state) n l ≡ Some old → Part (TurnTyped h.modules) (goes_on (with_root (with_stack h.state rest) (Local n l) new))
  write_local n l there =
      let top : Frame = with_local n l new lower_top in
      let look' : Roots = root_value (over n l top) in
      let kl = keep_locals h.modules (root_value h.state) look' Nothing kept h.home h.state.top.locals row.stands.tokens (avoid_nothing (local_references h.state.top.locals)) row.stands.locals in
      let ks = keep_stack h.modules (root_value h.state) look' Nothing kept h.home rest after (avoid_nothing (references rest)) rest_typed in
      let kb = keep_below h.modules (root_value h.state) look' Nothing kept h.state.top.entered_with row.stands.results h.state.below
      (below_avoids_nothing h.state.top.entered_with h.state.below) row.stands.below in
      let fw = frame_written h.modules n l old new base old_typed new_typed look' lower_top h.state.below h.home row.stands.tokens there kl in
      let build : LocalsHaveTokens h.modules (root_value (over n l (record lower_top { locals = fw.locals }))) h.home fw.locals row.stands.tokens → HaveTokens h.modules
      (root_value (over n l (record lower_top { locals = fw.locals }))) h.home rest after →
      AreWaiting h.modules (root_value (over n l (record lower_top { locals = fw.locals }))) h.state.top.entered_with row.stands.results
      (map (with_local n l new) h.state.below) → Part (TurnTyped h.modules) (goes_on (over n l (record lower_top { locals = fw.locals })))
      = built fw.locals in
      subst (λ (f : Frame). LocalsHaveTokens h.modules (root_value (over n l f)) h.home fw.locals row.stands.tokens → HaveTokens h.modules (root_value (over n l f)) h.home rest after →
      AreWaiting h.modules (root_value (over n l f)) h.state.top.entered_with row.stands.results (map (with_local n l new) h.state.below) → Part (TurnTyped h.modules) (goes_on (over n l f)))
      (sym fw.is_frame) build fw.typed ks (below_all n l look' there kb)
    where
      kept : Kept h.modules (root_value h.state) (root_value (over n l (with_local n l new lower_top))) Nothing
      kept (Stored key) t far r = record { value = r.value; is_there = r.is_there; is_of = r.is_of }
      kept (Local m k) t far r =
          let x = written_in (fields_by_name h.modules) n l old new base old_typed new_typed h.state.entered (lower_top ∷ h.state.below) m k r.value t row.stands.numbered there r.is_there r.is_of in
          record { value = x.0; is_there = x.1; is_of = x.2 }

      built : (locals : List (Option Value))
          → LocalsHaveTokens h.modules (root_value (over n l (record lower_top { locals = locals }))) h.home locals row.stands.tokens
          → HaveTokens h.modules (root_value (over n l (record lower_top { locals = locals }))) h.home rest after
          → AreWaiting h.modules (root_value (over n l (record lower_top { locals = locals }))) h.state.top.entered_with row.stands.results (map (with_local n l new) h.state.below)
          → Part (TurnTyped h.modules) (goes_on (over n l (record lower_top { locals = locals })))
      built locals a b c =
          moved h i types after row (h.state.top.at + 1) locals rest (map (with_local n l new) h.state.below) h.state.storage h.state.events next
          (numbers_stay n l new h.state.top.number h.state.below row.stands.numbered.1) a b c row.stands.storage

  write_stored : (key : Key) → stored_at h.state.storage key ≡ Some old → Part (TurnTyped h.modules) (goes_on (with_root (with_stack h.state rest) (Stored key) new))
  write_stored key there =
      let s' : State = with_root (with_stack h.state rest) (Stored key) new in
      let entry = stored_typed h.modules h.state.storage key old row.stands.storage there in
      let same : base ≡ StructTag entry.name = one_type (fields_by_name h.modules) old base (StructTag entry.name) old_typed entry.typed in
      let new_entry : EntryTyped h.modules (entry_of key new) =
      record { name = entry.name; fits = entry.fits; is_named = entry.is_named; has_key = entry.has_key; typed = subst (λ (t : Tag). IsOf (fields_by_name h.modules) new t) same new_typed } in
      moved h i types after row (h.state.top.at + 1) h.state.top.locals rest h.state.below s'.storage h.state.events next row.stands.numbered.1
      (keep_locals h.modules (root_value h.state) (root_value s') Nothing kept h.home h.state.top.locals row.stands.tokens (avoid_nothing (local_references h.state.top.locals)) row.stands.locals)
      (keep_stack h.modules (root_value h.state) (root_value s') Nothing kept h.home rest after (avoid_nothing (references rest)) rest_typed)
      (keep_below h.modules (root_value h.state) (root_value s') Nothing kept h.state.top.entered_with row.stands.results h.state.below
      (below_avoids_nothing h.state.top.entered_with h.state.below) row.stands.below)
      (typed_with h.modules h.state.storage key new row.stands.storage new_entry)
    where
      kept : Kept h.modules (root_value h.state) (root_value (with_root (with_stack h.state rest) (Stored key) new)) Nothing
      kept (Local m k) t far r = record { value = r.value; is_there = r.is_there; is_of = r.is_of }
      kept (Stored other) t far r = by_case (same_key key other) refl
        where
          by_case : (a : Bool) → same_key key other ≡ a → Rooted (fields_by_name h.modules) (root_value (with_root (with_stack h.state rest) (Stored key) new)) (Stored other) t
          by_case false p = record { value = r.value; is_there = stored_other h.state.storage key other new p ∙ r.is_there; is_of = r.is_of }
          by_case true p =
              let same : key ≡ other = same_key-to key other p in
              let at_key : stored_at h.state.storage key ≡ Some r.value = subst (λ (k : Key). stored_at h.state.storage k ≡ Some r.value) (sym same) r.is_there in
              let value : r.value ≡ old = same_Some r.value old (sym at_key ∙ there) in
              let tag : base ≡ t = one_type (fields_by_name h.modules) old base t old_typed (subst (λ (v : Value). IsOf (fields_by_name h.modules) v t) value r.is_of) in
              record { value = new; is_there = subst (λ (k : Key). stored_at (with_stored h.state.storage key new) k ≡ Some new) same (stored_same h.state.storage key new); is_of = subst (λ (x : Tag). IsOf (fields_by_name h.modules) new x) tag new_typed }

  write_root : (root : Root) → root_value h.state root ≡ Some old → Part (TurnTyped h.modules) (goes_on (with_root (with_stack h.state rest) root new))
  write_root (Local n l) there = write_local n l there
  write_root (Stored key) there = write_stored key there

module _ (h : Here) (i : Instruction) (types after : Types) (row : Row h i types after) (next : TypesAt h.home h.function (h.state.top.at + 1) after) where
  pub writes : of_write h.home types ≡ Some after → Part (TurnTyped h.modules) (write_reference h)
  unfolding write_reference
  writes e =
      on_bind (top_type types) _ after e (λ t t_is e1.
      on_bind (mutable_target_of t.0) _ after e1 (λ u u_is e2.
      on_bind (value_type_abilities h.home u) _ after e2 (λ a a_is e3.
      on_bind (taken (Plain u ∷ []) t.1) _ after e3 (λ below below_is e4.
      on_test a.drop below after e4 (λ able given.
      let table = fields_by_name h.modules in
      let look : Roots = root_value h.state in
      let all : types ≡ MutableReferenceTo u ∷ Plain u ∷ after =
      top_type-is types t t_is ∙ ap (λ (x : Token). x ∷ t.1) (mutable_target-is h.modules look h.home t.0 u u_is) ∙ ap
      (λ (x : Types). MutableReferenceTo u ∷ x) (taken-is (Plain u ∷ []) t.1 below below_is) ∙ ap (λ (x : Types). MutableReferenceTo u ∷ Plain u ∷ x) given in
      let top = top_typed h i types after row (MutableReferenceTo u) (Plain u ∷ after) all in
      let under = one_operand h.modules look h.home top.1 (Plain u) after top.4 in
      let ref = mutable_one h.modules look h.home top.0 u top.3 in
      let r : Reference = ref.reference in
      let there = place_of table h.state r ref.tag ref.points in
      let old : Value = there.0 in
      let same_tags : under.3.tag ≡ ref.tag = same_Some under.3.tag ref.tag (sym under.3.names ∙ ref.names) in
      let new_has : HasType table look under.0 ref.tag = subst (λ (x : Tag). HasType table look under.0 x) same_tags under.3.typed in
      let new_is : IsOf table under.0 ref.tag = plain_is table look under.0 ref.tag (named_plain h.home u ref.tag ref.names) new_has in
      let whole = write_within table ref.points.root.value ref.points.base ref.tag r.place.path under.0 ref.points.root.is_of ref.points.leads new_is in
      let written : with_place (with_stack h.state under.1) r.place under.0 ≡ Some (with_root (with_stack h.state under.1) r.place.root whole.0) =
      with_place_is h.state under.1 r.place under.0 ref.points.root.value whole.0 ref.points.root.is_there whole.1 in
      known (TurnTyped h.modules) (operand h.state.top.stack) _ (top.0, top.1) (ap operand top.2)
      (known (TurnTyped h.modules) (operand top.1) _ (under.0, under.1) (ap operand under.2)
      (known (TurnTyped h.modules) (as_reference top.0) _ r (ap as_reference ref.is_reference)
      (passes (TurnTyped h.modules) r.is_mutable _ _ ref.mutable
      (known (TurnTyped h.modules) (follow h.state r) _ old (ap (λ (x : Option Value). ok_or x (Faults DanglingFault)) there.1)
      (known (TurnTyped h.modules) (ok_or (tag_of h.state old) (Faults TypeFault)) _ ref.tag
      (ap (λ (x : Option Tag). ok_or x (Faults TypeFault)) (typed_tag table h.state old ref.tag (is_plain table look old ref.tag there.2)))
      (passes (TurnTyped h.modules) (has_tag h.state under.0 ref.tag) _ _ (typed_has_tag table h.state under.0 ref.tag new_has)
      (tested (TurnTyped h.modules) (need (can_drop h old) (Faults LostFault)) _ (lost (can_drop h old))
      (tested (TurnTyped h.modules) (untouched (with_stack h.state under.1) r.place) _ (frozen (with_stack h.state under.1) r.place)
      (known (TurnTyped h.modules) (ok_or (with_place (with_stack h.state under.1) r.place under.0) (Faults DanglingFault)) _
      (with_root (with_stack h.state under.1) r.place.root whole.0) (ap (λ (x : Option State). ok_or x (Faults DanglingFault)) written)
      (write_root h i types after row next ref.points.root.value whole.0 ref.points.base ref.points.root.is_of whole.2 under.1 under.4 r.place.root ref.points.root.is_there)))))))))))))))
    where
      with_place_is : (s : State) (rest : List Value) (p : Place) (new old whole : Value) → root_value s p.root ≡ Some old
          → with_value_at old p.path new ≡ Some whole → with_place (with_stack s rest) p new ≡ Some (with_root (with_stack s rest) p.root whole)
      with_place_is s rest p new old whole there put =
          subst (λ (x : Option Value). option_map (with_root (with_stack s rest) p.root) (option_and_then (λ o. with_value_at o p.path new) x) ≡ Some
          (with_root (with_stack s rest) p.root whole)) (sym (root-stack s rest p.root ∙ there))
          (ap (option_map (with_root (with_stack s rest) p.root)) put)
