-- The rules of Pop and of locals taken apart: what each found, and what it leaves.
use Rattle.mv_machine.proofs.Common.{ℕ, ◌∙◌, ◌∷◌, ◌≡◌, Bool, List, None, Ok, Option, Some, ap, not, true, slice_get, Tag, is_frozen_by, live, borrow_local, copy_local, held, move_local, pop}
use Rattle.mv_machine.proofs.Common.{store_local, with_own_local, Here, Turn, can_copy, can_drop, goes_on, is_reference_tag, may_drop, pushes, with_stack, has_tag, Ref, Value}
use Rattle.std.specs.Prelude.{is_some}
use Rattle.mv_machine.specs.StepLocals.{local_tag, local_place}
use Rattle.mv_machine.specs.Typing.{tag_of}
use Rattle.mv_machine.proofs.Laws.{on_ok, on_need}
use Rattle.mv_machine.proofs.Binds.{ok-is, held-is, on_some, on_operand}

-- a Pop
pub record PopIs (h : Here) (stack after : List Value) : Type 0 where
  pub top : Value
  pub taken : stack ≡ top ∷ after
  pub drops : can_drop h top ≡ true

pub pop-is : (h : Here) (stack after : List Value) → pop h stack ≡ Ok after → PopIs h stack after
unfolding pop
pop-is h stack after e =
    on_operand stack _ after e (λ top below taken e1.
    on_need (is_some (tag_of h.state top)) _ _ after e1 (λ tagged e2.
    on_need (can_drop h top) _ _ after e2 (λ drops e3.
    record { top = top; taken = taken ∙ ap (λ (s : List Value). top ∷ s) (ok-is below after e3); drops = drops })))

-- a CopyLoc
pub record CopyIs (h : Here) (l : ℕ) (t : Turn) : Type 0 where
  pub value : Value
  pub stands : slice_get h.state.top.locals l ≡ Some (Some value)
  pub copies : can_copy h value ≡ true
  pub left : pushes h value ≡ Ok t

pub copy-is : (h : Here) (l : ℕ) (t : Turn) → copy_local h l ≡ Ok t → CopyIs h l t
unfolding copy_local
copy-is h l t e =
    on_ok (held h l) _ t e (λ value value_is e1.
    on_need (can_copy h value) _ _ t e1 (λ copies e2.
    record { value = value; stands = held-is h l value value_is; copies = copies; left = e2 }))

-- a MoveLoc
pub record MoveIs (h : Here) (l : ℕ) (t : Turn) : Type 0 where
  pub value : Value
  pub stands : slice_get h.state.top.locals l ≡ Some (Some value)
  pub unfrozen : not (is_frozen_by (live h.state) (local_place h l)) ≡ true
  pub left : goes_on (with_stack (with_own_local h.state l None) (value ∷ h.state.top.stack)) ≡ Ok t

pub move-is : (h : Here) (l : ℕ) (t : Turn) → move_local h l ≡ Ok t → MoveIs h l t
unfolding move_local
move-is h l t e =
    on_ok (held h l) _ t e (λ value value_is e1.
    on_need (not (is_frozen_by (live h.state) (local_place h l))) _ _ t e1 (λ unfrozen e2.
    record { value = value; stands = held-is h l value value_is; unfrozen = unfrozen; left = e2 }))

-- a StLoc
pub record StoreIs (h : Here) (l : ℕ) (t : Turn) : Type 0 where
  pub value : Value
  pub below : List Value
  pub old : Option Value
  pub tag : Tag
  pub taken : h.state.top.stack ≡ value ∷ below
  pub stood : slice_get h.state.top.locals l ≡ Some old
  pub tag_is : local_tag h l ≡ Ok tag
  pub typed : has_tag h.state value tag ≡ true
  pub drops : may_drop h old ≡ true
  pub left : goes_on (with_own_local (with_stack h.state below) l (Some value)) ≡ Ok t

pub store-is : (h : Here) (l : ℕ) (t : Turn) → store_local h l ≡ Ok t → StoreIs h l t
unfolding store_local
store-is h l t e =
    on_operand h.state.top.stack _ t e (λ value below taken e1.
    on_some (slice_get h.state.top.locals l) _ _ t e1 (λ old stood e2.
    on_ok (local_tag h l) _ t e2 (λ tag tag_is e3.
    on_need (has_tag h.state value tag) _ _ t e3 (λ typed e4.
    on_need (may_drop h old) _ _ t e4 (λ drops e5.
    on_need (not (is_frozen_by (live (with_stack h.state below)) (local_place h l))) _ _ t e5 (λ unfrozen e6.
    record { value = value; below = below; old = old; tag = tag; taken = taken; stood = stood; tag_is = tag_is; typed = typed; drops = drops; left = e6 }))))))

-- a MutBorrowLoc or an ImmBorrowLoc
pub record BorrowIs (is_mutable : Bool) (h : Here) (l : ℕ) (t : Turn) : Type 0 where
  pub value : Value
  pub stands : slice_get h.state.top.locals l ≡ Some (Some value)
  pub left : pushes h (Ref (record { is_mutable = is_mutable; place = local_place h l })) ≡ Ok t

pub borrow-is : (is_mutable : Bool) (h : Here) (l : ℕ) (t : Turn) → borrow_local is_mutable h l ≡ Ok t → BorrowIs is_mutable h l t
unfolding borrow_local
borrow-is is_mutable h l t e =
    on_ok (held h l) _ t e (λ value value_is e1.
    on_ok (local_tag h l) _ t e1 (λ tag tag_is e2.
    on_need (not (is_reference_tag tag)) _ _ t e2 (λ plain e3.
    record { value = value; stands = held-is h l value value_is; left = e3 })))
