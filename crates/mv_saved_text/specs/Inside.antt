-- How many values of one struct a value of another contains, itself included.
--   structs_within depth modules s name     how many values of the struct s a value of the struct name contains, itself included
--   structs_under depth modules s d         the same of the struct at a place and an index
--   structs_in_parts depth modules s parts  how many the fields that are made of these parts contain
use Rattle.std.specs.Prelude.{ℕ, zero, suc, ◌+◌, cond, List, [], ◌∷◌}
use Rattle.std.specs.Option.{option_map_or}
use Rattle.mv_move_types.specs.declared.tables.Definition.{Definition}
use Rattle.mv_move_types.specs.declared.tables.Field.{Field}
use Rattle.mv_move_types.specs.declared.token.ValueType.TheVariants.{OfStruct}
use Rattle.mv_move_types.specs.declared.token.Token.{Token}
use Rattle.mv_move_types.specs.declared.token.Token.TheVariants.{Plain}
use Rattle.mv_move_types.specs.Names.{StructName, same_struct}
use Rattle.mv_move_types.specs.Module.{Module, struct_name, name_at}
use Rattle.mv_move_types.specs.Named.{definition_of}
use Rattle.mv_interface.specs.declared.shapes.Part.{Part}
use Rattle.mv_interface.specs.declared.shapes.Part.TheVariants.{Leaf, Struct, Nothing}

-- how many a value of a type has, where those of a struct's are given
abbrev pub structs_in_token : (StructName → ℕ) → Module → Token → ℕ
structs_in_token struct m (Plain (OfStruct h)) = option_map_or struct (struct_name m h) 0
structs_in_token struct m _ = 0

-- how many values of fields have
abbrev pub structs_in_fields : (Token → ℕ) → List Field → ℕ
structs_in_fields each [] = 0
structs_in_fields each (f ∷ fs) = each f.token + structs_in_fields each fs

-- how many values of a struct a value of this name has, itself included, to a depth of nesting
abbrev pub structs_within : ℕ → List Module → StructName → StructName → ℕ
structs_within zero modules s name = 0
structs_within (suc depth) modules s name =
    option_map_or (λ d. cond (same_struct name s) 1 0 + structs_in_fields (structs_in_token (structs_within depth modules s) d.0) d.1)
    (definition_of modules name) 0

-- the same of the struct at a place and an index
abbrev pub structs_under : ℕ → List Module → StructName → Definition → ℕ
structs_under depth modules s d = option_map_or (structs_within depth modules s) (name_at modules d.place d.index) 0

-- how many values of the struct a part has
abbrev pub structs_in_part : ℕ → List Module → StructName → Part → ℕ
structs_in_part depth modules s (Leaf kind) = 0
structs_in_part depth modules s (Struct d) = structs_under depth modules s d
structs_in_part depth modules s Nothing = 0

-- how many parts have
abbrev pub structs_in_parts : ℕ → List Module → StructName → List Part → ℕ
structs_in_parts depth modules s [] = 0
structs_in_parts depth modules s (part ∷ parts) = structs_in_part depth modules s part + structs_in_parts depth modules s parts
