-- The rules of the storage taken apart: what each found, and what it leaves.
use Rattle.mv_machine.proofs.Common.{[], ℕ, ◌∙◌, ◌∷◌, ◌≡◌, Bool, List, None, Ok, Some, ap, not, is_some, Address, is_frozen_by, live, place_value, stored_at, with_stored, without_stored}
use Rattle.mv_machine.proofs.Common.{borrow_global, exists, key_at, keyed_struct, move_from, move_to, Here, Turn, gives, goes_on, with_stack, has_tag, Leaf, Ref, Reference, Stored, Value}
use Rattle.mv_move_types.specs.Tags.{StructTag}
use Rattle.mv_machine.specs.StepParts.{as_signer, truth}
use Rattle.mv_machine.specs.StepGlobals.{with_storage}
use Rattle.mv_machine.proofs.Laws.{on_ok, on_need}
use Rattle.mv_machine.proofs.Binds.{none-is, on_some, on_operand, on_address, on_reference}

-- an operand that is an address
top-is : (stack below : List Value) (v : Value) (a : ℕ) → stack ≡ v ∷ below → v ≡ Leaf Address a → stack ≡ Leaf Address a ∷ below
top-is stack below v a s e = s ∙ ap (λ (x : Value). x ∷ below) e

-- an Exists
pub record ExistsIs (h : Here) (i : ℕ) (t : Turn) : Type 0 where
  pub address : ℕ
  pub below : List Value
  pub taken : h.state.top.stack ≡ Leaf Address address ∷ below
  pub left : gives h (Ok (truth (is_some (stored_at h.state.storage (key_at h i address))) ∷ below)) ≡ Ok t

pub exists-is : (h : Here) (i : ℕ) (t : Turn) → exists h i ≡ Ok t → ExistsIs h i t
unfolding exists
exists-is h i t e =
    on_ok (keyed_struct h i) _ t e (λ struct struct_is e1.
    on_operand h.state.top.stack _ t e1 (λ v below s e2.
    on_address v _ t e2 (λ a v_is e3.
    record { address = a; below = below; taken = top-is h.state.top.stack below v a s v_is; left = e3 })))

-- a MutBorrowGlobal or an ImmBorrowGlobal
pub record BorrowGlobalIs (is_mutable : Bool) (h : Here) (i : ℕ) (t : Turn) : Type 0 where
  pub address : ℕ
  pub value : Value
  pub below : List Value
  pub taken : h.state.top.stack ≡ Leaf Address address ∷ below
  pub stored : stored_at h.state.storage (key_at h i address) ≡ Some value
  pub left : gives h (Ok (Ref (record { is_mutable = is_mutable; place = record { root = Stored (key_at h i address); path = [] } }) ∷ below)) ≡ Ok t

pub borrow_global-is : (is_mutable : Bool) (h : Here) (i : ℕ) (t : Turn) → borrow_global is_mutable h i ≡ Ok t → BorrowGlobalIs is_mutable h i t
unfolding borrow_global
borrow_global-is is_mutable h i t e =
    on_ok (keyed_struct h i) _ t e (λ struct struct_is e1.
    on_operand h.state.top.stack _ t e1 (λ v below s e2.
    on_address v _ t e2 (λ a v_is e3.
    on_some (stored_at h.state.storage (key_at h i a)) _ _ t e3 (λ value stored e4.
    record { address = a; value = value; below = below; taken = top-is h.state.top.stack below v a s v_is; stored = stored; left = e4 }))))

-- a MoveFrom
pub record MoveFromIs (h : Here) (i : ℕ) (t : Turn) : Type 0 where
  pub address : ℕ
  pub value : Value
  pub below : List Value
  pub taken : h.state.top.stack ≡ Leaf Address address ∷ below
  pub stored : stored_at h.state.storage (key_at h i address) ≡ Some value
  pub left : goes_on (with_stack (with_storage h.state (without_stored h.state.storage (key_at h i address))) (value ∷ below)) ≡ Ok t

pub move_from-is : (h : Here) (i : ℕ) (t : Turn) → move_from h i ≡ Ok t → MoveFromIs h i t
unfolding move_from
move_from-is h i t e =
    on_ok (keyed_struct h i) _ t e (λ struct struct_is e1.
    on_operand h.state.top.stack _ t e1 (λ v below s e2.
    on_address v _ t e2 (λ a v_is e3.
    on_need (not (is_frozen_by (live h.state) (record { root = Stored (key_at h i a); path = [] }))) _ _ t e3 (λ unfrozen e4.
    on_some (stored_at h.state.storage (key_at h i a)) _ _ t e4 (λ value stored e5.
    record { address = a; value = value; below = below; taken = top-is h.state.top.stack below v a s v_is; stored = stored; left = e5 })))))

-- a MoveTo
pub record MoveToIs (h : Here) (i : ℕ) (t : Turn) : Type 0 where
  pub address : ℕ
  pub value : Value
  pub reference : Reference
  pub below : List Value
  pub taken : h.state.top.stack ≡ value ∷ Ref reference ∷ below
  pub free : stored_at h.state.storage (key_at h i address) ≡ None
  pub left : goes_on (with_stack (with_storage h.state (with_stored h.state.storage (key_at h i address) value)) below) ≡ Ok t

pub move_to-is : (h : Here) (i : ℕ) (t : Turn) → move_to h i ≡ Ok t → MoveToIs h i t
unfolding move_to
move_to-is h i t e =
    on_ok (keyed_struct h i) _ t e (λ struct struct_is e1.
    on_operand h.state.top.stack _ t e1 (λ value rest s e2.
    on_operand rest _ t e2 (λ under below s2 e3.
    on_need (has_tag h.state value (StructTag struct.name)) _ _ t e3 (λ typed e4.
    on_reference under _ t e4 (λ r r_is e5.
    on_need (not r.is_mutable) _ _ t e5 (λ immutable e6.
    on_some (place_value h.state r.place) _ _ t e6 (λ signer signer_is e7.
    on_ok (as_signer signer) _ t e7 (λ a a_is e8.
    on_need (not (is_some (stored_at h.state.storage (key_at h i a)))) _ _ t e8 (λ free e9.
    on_need (not (is_frozen_by (live h.state) (record { root = Stored (key_at h i a); path = [] }))) _ _ t e9 (λ unfrozen e10.
    record {
      address = a;
      value = value;
      reference = r;
      below = below;
      taken = s ∙ ap (λ (b : List Value). value ∷ b) (s2 ∙ ap (λ (b : Value). b ∷ below) r_is);
      free = none-is (stored_at h.state.storage (key_at h i a)) free;
      left = e10;
    }))))))))))
