-- What each instruction does to the values of a state, as a few kinds of effect.
use Rattle.mv_machine.proofs.Common.{[], ℕ, ◌++◌, ◌+◌, ◌∷◌, ◌≡◌, List, None, Ok, Option, Some, false, length, reverse, true, AllByRecursion, list_all, slice_get, StructName, same_struct}
use Rattle.mv_machine.proofs.Common.{for_each, Tag, FunctionHandle, LeafKind, Address, Frame, State, place_value, stored_at, with_place, with_stored, without_stored, Goes, OwnStruct}
use Rattle.mv_machine.proofs.Common.{Returns, entered_frame, signature_tags, with_own_local, can_copy, can_drop, noted, own_struct, entry, has_tag, have_tags, tag_named, tag_of, Leaf, Place}
use Rattle.mv_machine.proofs.Common.{Ref, Reference, Struct, Value, Values, fields_of, list_of}
use Rattle.mv_move_types.specs.declared.tables.Key.{Key}
use Rattle.mv_move_types.specs.declared.tables.Definition.{Definition}
use Rattle.mv_machine.specs.Step.{Here, Turn, with_stack, with_storage, may_drop}
use Rattle.mv_machine.specs.StepParts.{with_top}

-- a state at another instruction
abbrev pub arrived : ℕ → State → State
arrived at s = with_top s (record (s.top) { at = at })

-- a value stands in a local of the frame at work, or at a place
pub data Stands (s : State) : Value → Type 0 where
  in_local : (l : ℕ) (v : Value) → slice_get s.top.locals l ≡ Some (Some v) → Stands s v
  at_place : (p : Place) (v : Value) → place_value s p ≡ Some v → Stands s v

-- an operand that comes from nothing: a leaf, a reference, or a copy
pub data Appears (h : Here) : Value → Type 0 where
  a_leaf : (kind : LeafKind) (n : ℕ) → Appears h (Leaf kind n)
  a_reference : (r : Reference) → Appears h (Ref r)
  a_copy : (v : Value) → can_copy h v ≡ true → Stands h.state v → Appears h v

-- what an instruction that goes on did, apart from going on
pub data Effect (h : Here) : State → Type 0 where
  Restacked : (taken given rest : List Value) → h.state.top.stack ≡ taken ++ rest →
      AllByRecursion (λ v. can_drop h v ≡ true) taken → AllByRecursion (Appears h) given →
      Effect h (with_stack h.state (given ++ rest))
  MovedLocal : (l : ℕ) (v : Value) → slice_get h.state.top.locals l ≡ Some (Some v) →
      Effect h (with_stack (with_own_local h.state l None) (v ∷ h.state.top.stack))
  StoredLocal : (l : ℕ) (old : Option Value) (v : Value) (below : List Value) → h.state.top.stack ≡ v ∷ below →
      slice_get h.state.top.locals l ≡ Some old → may_drop h old ≡ true →
      Effect h (with_own_local (with_stack h.state below) l (Some v))
  Packed : (i : ℕ) (struct : OwnStruct) (taken rest : List Value) (tags : List Tag) → own_struct h i ≡ Ok struct →
      h.state.top.stack ≡ reverse taken ++ rest →
      for_each (λ f. tag_named h.modules h.home f.token) struct.fields ≡ Ok tags → have_tags h.state taken tags ≡ true →
      Effect h (noted true struct (with_stack h.state (Struct struct.name (fields_of taken) ∷ rest)))
  Unpacked : (i : ℕ) (struct : OwnStruct) (name : StructName) (fields : Values) (below : List Value) → own_struct h i ≡ Ok struct →
      h.state.top.stack ≡ Struct name fields ∷ below → same_struct name struct.name ≡ true →
      Effect h (noted false struct (with_stack h.state (reverse (list_of fields) ++ below)))
  Written : (r : Reference) (new old : Value) (below : List Value) (tag : Tag) (next : State) →
      h.state.top.stack ≡ Ref r ∷ new ∷ below → place_value h.state r.place ≡ Some old →
      tag_of h.state old ≡ Some tag → has_tag h.state new tag ≡ true → can_drop h old ≡ true →
      with_place (with_stack h.state below) r.place new ≡ Some next → Effect h next
  MovedFrom : (key : Key) (a : ℕ) (v : Value) (below : List Value) → h.state.top.stack ≡ Leaf Address a ∷ below →
      stored_at h.state.storage key ≡ Some v →
      Effect h (with_stack (with_storage h.state (without_stored h.state.storage key)) (v ∷ below))
  MovedTo : (key : Key) (r : Reference) (v : Value) (below : List Value) → h.state.top.stack ≡ v ∷ Ref r ∷ below →
      stored_at h.state.storage key ≡ None →
      Effect h (with_stack (with_storage h.state (with_stored h.state.storage key v)) below)
  Called : (function : Definition) (others : ℕ) (taken rest : List Value) → h.state.top.stack ≡ reverse taken ++ rest →
      Effect h (record (h.state) {
        top = entered_frame h.state.entered function taken others;
        below = record (h.state.top) { stack = rest } ∷ h.state.below;
        entered = h.state.entered + 1;
      })
  Resumed : (results : List Value) (f : Frame) (fs : List Frame) → h.state.top.stack ≡ reverse results →
      list_all (may_drop h) h.state.top.locals ≡ true → h.state.below ≡ f ∷ fs →
      Effect h (record (h.state) { top = record f { stack = reverse results ++ f.stack }; below = fs })

-- how an instruction ends that doesn't fail
pub data Ends (h : Here) : Turn → Type 0 where
  Went : (at : ℕ) (next : State) → Effect h next → Ends h (Goes (arrived at next))
  Left : (handle : FunctionHandle) (tags : List Tag) (results : List Value) → entry h.home.function_handles h.function.handle ≡ Ok handle →
      signature_tags h.modules h.home handle.results ≡ Ok tags → length results ≡ length tags →
      h.state.top.stack ≡ reverse results → list_all (may_drop h) h.state.top.locals ≡ true → h.state.below ≡ [] →
      Ends h (Returns h.state)
