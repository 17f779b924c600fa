-- How the lines of a show are made.
--   fields_text fields                 fields with commas between
--   PutsText text found rest old new   the text of what was found was put after the old one
--   key_name_text, key_value_text      the text of a key's struct, and of a value given by its words
use Rattle.std.specs.Prelude.{◌≡◌, ℕ, List, [], ◌++◌, Option, Some, None, option_map, unwrap_or}
use Rattle.std.specs.Borrow.{Bor}
use Rattle.mv_move_types.specs.Limits.{most_nesting}
use Rattle.mv_move_types.specs.Names.{StructName}
use Rattle.mv_move_types.specs.Module.{Module}
use Rattle.std.specs.Option.{option_map_or}
use Rattle.mv_move_types.specs.Options.{◌>>=◌}
use Rattle.mv_move_types.specs.declared.token.LeafKind.TheVariants.{Boolean}
use Rattle.mv_machine.specs.Value.{Leaf, Values, NoMore, More}
use Rattle.mv_machine.specs.Flat.{struct_from}
use Rattle.mv_machine.specs.Lines.{value_text, rest_text, struct_text}

-- fields' values with a comma between each two
abbrev pub fields_text : Values → List ℕ
fields_text NoMore = []
fields_text (More v vs) = value_text v ++ rest_text vs

-- There is a value: its text was put after the old one, and these words are left. Or there is none.
abbrev pub PutsText : {A : Type 0} → (A → List ℕ) → Option (A × List ℕ) → Option (Bor (List ℕ)) → List ℕ → List ℕ → Type 0
PutsText text None rest old new = option_map (λ r. r.now) rest ≡ None
PutsText text (Some p) rest old new = (option_map (λ r. r.now) rest ≡ Some p.1) × (new ≡ old ++ text p.0)

-- the text of a struct's name, or nothing
abbrev pub key_name_text : Option StructName → List ℕ
key_name_text name = option_map_or struct_text name []

-- the text of the value of a struct that begins with these words
abbrev pub key_value_text : List Module → Option StructName → List ℕ → List ℕ
key_value_text modules name words =
    value_text (unwrap_or (name >>= λ n. struct_from most_nesting modules n words >>= λ v. Some v.0) (Leaf Boolean 0))
