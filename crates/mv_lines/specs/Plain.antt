-- Texts that stand in JSON as they are.
use Rattle.std.specs.Prelude.{◌≡◌, ℕ, Bool, not, ◌&&◌, ◌==◌, nat_le, nat_lt, IsTrue, List, Some, decimal}
use Rattle.std.specs.List.{list_all}
use Rattle.mv_move_types.specs.Module.{name_at}
use Rattle.mv_move_types.specs.Names.{StructName}
use Rattle.mv_move_types.specs.Published.{PublishedModule}
use Rattle.mv_machine.specs.Value.{Value}
use Rattle.mv_machine.specs.Lines.{address_text, struct_text, value_text}
use Rattle.mv_link_rules.specs.Link.{IsStore, tables_in}

-- a byte that JSON writes as it is: printed ASCII, but no quotation mark and no backslash
abbrev pub is_plain : ℕ → Bool
is_plain b = nat_le 32 b && nat_lt b 127 && not (b == 34) && not (b == 92)

-- a text of such bytes
abbrev pub IsPlain : List ℕ → Type 0
IsPlain text = IsTrue (list_all is_plain text)

-- No text between the quotation marks of a show or an audit has a byte that JSON would escape: no address, no number, no value, and
-- no name of a struct of a store.
pub record NoTextIsEscaped : Type 0 where
  pub address : (a : ℕ) → IsPlain (address_text a)
  pub number : (n : ℕ) → IsPlain (decimal n)
  pub value : (v : Value) → IsPlain (value_text v)
  pub name : (published : List PublishedModule) → IsStore published
      → (place index : ℕ) (name : StructName) → name_at (tables_in published) place index ≡ Some name → IsPlain (struct_text name)
