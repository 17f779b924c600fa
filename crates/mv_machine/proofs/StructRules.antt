-- The rules of Pack and Unpack taken apart: what each found, and what it leaves.
use Rattle.mv_machine.proofs.Common.{ℕ, ◌++◌, ◌∙◌, ◌∷◌, ◌≡◌, List, Ok, ap, false, length, reverse, true, StructName, same_struct, for_each, Tag, Here, Turn, goes_on, with_stack, noted}
use Rattle.mv_machine.proofs.Common.{own_struct, pack, unpack, have_tags, tag_named, Struct, Value, Values, fields_of, list_of}
use Rattle.mv_machine.specs.StepStructs.{OwnStruct}
use Rattle.mv_machine.proofs.Laws.{on_ok, on_need}
use Rattle.mv_machine.proofs.Binds.{on_operand, on_operands, on_fields}

-- a Pack
pub record PackIs (h : Here) (i : ℕ) (t : Turn) : Type 0 where
  pub struct : OwnStruct
  pub taken : List Value
  pub rest : List Value
  pub tags : List Tag
  pub struct_is : own_struct h i ≡ Ok struct
  pub before : h.state.top.stack ≡ reverse taken ++ rest
  pub tags_are : for_each (λ f. tag_named h.modules h.home f.token) struct.fields ≡ Ok tags
  pub typed : have_tags h.state taken tags ≡ true
  pub left : goes_on (noted true struct (with_stack h.state (Struct struct.name (fields_of taken) ∷ rest))) ≡ Ok t

pub pack-is : (h : Here) (i : ℕ) (t : Turn) → pack h i ≡ Ok t → PackIs h i t
unfolding pack
pack-is h i t e =
    on_ok (own_struct h i) _ t e (λ struct struct_is e1.
    on_operands (length struct.fields) h.state.top.stack _ t e1 (λ taken rest before n e2.
    on_ok (for_each (λ f. tag_named h.modules h.home f.token) struct.fields) _ t e2 (λ tags tags_are e3.
    on_need (have_tags h.state taken tags) _ _ t e3 (λ typed e4.
    record { struct = struct; taken = taken; rest = rest; tags = tags; struct_is = struct_is; before = before; tags_are = tags_are; typed = typed; left = e4 }))))

-- an Unpack
pub record UnpackIs (h : Here) (i : ℕ) (t : Turn) : Type 0 where
  pub struct : OwnStruct
  pub name : StructName
  pub fields : Values
  pub below : List Value
  pub struct_is : own_struct h i ≡ Ok struct
  pub taken : h.state.top.stack ≡ Struct name fields ∷ below
  pub same : same_struct name struct.name ≡ true
  pub left : goes_on (noted false struct (with_stack h.state (reverse (list_of fields) ++ below))) ≡ Ok t

pub unpack-is : (h : Here) (i : ℕ) (t : Turn) → unpack h i ≡ Ok t → UnpackIs h i t
unfolding unpack
unpack-is h i t e =
    on_ok (own_struct h i) _ t e (λ struct struct_is e1.
    on_operand h.state.top.stack _ t e1 (λ v below s e2.
    on_fields struct.name v _ t e2 (λ name fields v_is same e3.
    record {
      struct = struct;
      name = name;
      fields = fields;
      below = below;
      struct_is = struct_is;
      taken = s ∙ ap (λ (x : Value). x ∷ below) v_is;
      same = same;
      left = e3;
    })))
