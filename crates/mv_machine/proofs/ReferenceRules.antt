-- The rules of references taken apart: what each found, and what it leaves.
use Rattle.mv_machine.proofs.Common.{ℕ, ◌∙◌, ◌∷◌, ◌≡◌, Bool, List, Ok, Some, ap, ap₂, false, not, sym, true, Tag, is_frozen_by, live, State, place_value, with_place, Here, Turn, can_copy}
use Rattle.mv_machine.proofs.Common.{can_drop, gives, goes_on, with_stack, borrow_field, freeze, own_field, read_reference, write_reference, has_tag, tag_of, Ref, Reference, Value}
use Rattle.mv_machine.specs.StepStructs.{OwnStruct}
use Rattle.mv_machine.specs.StepReferences.{lends, extended}
use Rattle.mv_machine.proofs.Laws.{on_ok, on_need}
use Rattle.mv_machine.proofs.Binds.{ok-is, on_some, on_operand, on_reference, on_fields}

-- an operand that is a reference
top-is : (stack below : List Value) (v : Value) (r : Reference) → stack ≡ v ∷ below → v ≡ Ref r → stack ≡ Ref r ∷ below
top-is stack below v r s e = s ∙ ap (λ (x : Value). x ∷ below) e

-- a MutBorrowField or an ImmBorrowField
pub record BorrowFieldIs (is_mutable : Bool) (h : Here) (i : ℕ) (t : Turn) : Type 0 where
  pub field : OwnStruct × ℕ
  pub reference : Reference
  pub below : List Value
  pub field_is : own_field h i ≡ Ok field
  pub taken : h.state.top.stack ≡ Ref reference ∷ below
  pub lent : lends is_mutable reference ≡ true
  pub left : gives h (Ok (Ref (record { is_mutable = is_mutable; place = extended reference.place field.1 }) ∷ below)) ≡ Ok t

pub borrow_field-is : (is_mutable : Bool) (h : Here) (i : ℕ) (t : Turn) → borrow_field is_mutable h i ≡ Ok t → BorrowFieldIs is_mutable h i t
unfolding borrow_field
borrow_field-is is_mutable h i t e =
    on_ok (own_field h i) _ t e (λ field field_is e1.
    on_operand h.state.top.stack _ t e1 (λ v below s e2.
    on_reference v _ t e2 (λ r v_is e3.
    on_need (lends is_mutable r) _ _ t e3 (λ lent e4.
    on_some (place_value h.state r.place) _ _ t e4 (λ x x_is e5.
    on_fields _ x _ t e5 (λ own fields own_is same e6.
    record { field = field; reference = r; below = below; field_is = field_is; taken = top-is h.state.top.stack below v r s v_is; lent = lent; left = e6 }))))))

-- a ReadRef
pub record ReadIs (h : Here) (stack after : List Value) : Type 0 where
  pub reference : Reference
  pub value : Value
  pub below : List Value
  pub taken : stack ≡ Ref reference ∷ below
  pub found : place_value h.state reference.place ≡ Some value
  pub copies : can_copy h value ≡ true
  pub afterwards : after ≡ value ∷ below

pub read-is : (h : Here) (stack after : List Value) → read_reference h stack ≡ Ok after → ReadIs h stack after
unfolding read_reference
read-is h stack after e =
    on_operand stack _ after e (λ v below s e1.
    on_reference v _ after e1 (λ r v_is e2.
    on_some (place_value h.state r.place) _ _ after e2 (λ value found e3.
    on_need (can_copy h value) _ _ after e3 (λ copies e4.
    record { reference = r; value = value; below = below; taken = top-is stack below v r s v_is; found = found; copies = copies; afterwards = sym (ok-is (value ∷ below) after e4) }))))

-- a WriteRef
pub record WriteIs (h : Here) (t : Turn) : Type 0 where
  pub reference : Reference
  pub new : Value
  pub old : Value
  pub below : List Value
  pub tag : Tag
  pub next : State
  pub taken : h.state.top.stack ≡ Ref reference ∷ new ∷ below
  pub found : place_value h.state reference.place ≡ Some old
  pub tag_is : tag_of h.state old ≡ Some tag
  pub typed : has_tag h.state new tag ≡ true
  pub drops : can_drop h old ≡ true
  pub next_is : with_place (with_stack h.state below) reference.place new ≡ Some next
  pub left : goes_on next ≡ Ok t

pub write-is : (h : Here) (t : Turn) → write_reference h ≡ Ok t → WriteIs h t
unfolding write_reference
write-is h t e =
    on_operand h.state.top.stack _ t e (λ v rest s e1.
    on_operand rest _ t e1 (λ new below s2 e2.
    on_reference v _ t e2 (λ r v_is e3.
    on_need r.is_mutable _ _ t e3 (λ mutable e4.
    on_some (place_value h.state r.place) _ _ t e4 (λ old found e5.
    on_some (tag_of h.state old) _ _ t e5 (λ tag tag_is e6.
    on_need (has_tag h.state new tag) _ _ t e6 (λ typed e7.
    on_need (can_drop h old) _ _ t e7 (λ drops e8.
    on_need (not (is_frozen_by (live (with_stack h.state below)) r.place)) _ _ t e8 (λ unfrozen e9.
    on_some (with_place (with_stack h.state below) r.place new) _ _ t e9 (λ next next_is e10.
    record {
      reference = r;
      new = new;
      old = old;
      below = below;
      tag = tag;
      next = next;
      taken = s ∙ ap₂ (λ (a : Value) (b : List Value). a ∷ b) v_is s2;
      found = found;
      tag_is = tag_is;
      typed = typed;
      drops = drops;
      next_is = next_is;
      left = e10;
    }))))))))))

-- a FreezeRef
pub record FreezeIs (h : Here) (stack after : List Value) : Type 0 where
  pub reference : Reference
  pub below : List Value
  pub taken : stack ≡ Ref reference ∷ below
  pub afterwards : after ≡ Ref (record { is_mutable = false; place = reference.place }) ∷ below

pub freeze-is : (h : Here) (stack after : List Value) → freeze h stack ≡ Ok after → FreezeIs h stack after
unfolding freeze
freeze-is h stack after e =
    on_operand stack _ after e (λ v below s e1.
    on_reference v _ after e1 (λ r v_is e2.
    on_need r.is_mutable _ _ after e2 (λ mutable e3.
    on_some (place_value h.state r.place) _ _ after e3 (λ x x_is e4.
    record {
      reference = r;
      below = below;
      taken = top-is stack below v r s v_is;
      afterwards = sym (ok-is (Ref (record { is_mutable = false; place = r.place }) ∷ below) after e4);
    }))))
