-- Types of a published module as they are kept, by names: so that they are compared with those of the module that is to take its place.
--   part_named modules part      what a kept field is made of, by names
--   kept_named modules type      a kept type, by names
--   are_parts modules parts n fields    whether fields of another module are made of these
--   are_kept modules types n tokens     whether types of another module are these kept ones, in order
use Rattle.std.specs.Prelude.{ℕ, Bool, true, false, not, ◌&&◌, ◌||◌, List, [], ◌∷◌, Option, Some, None, option_map, slice_get}
use Rattle.std.specs.Option.{option_map_or}
use Rattle.std.specs.Str.{bytes_eq}
use Rattle.mv_move_types.specs.declared.tables.Definition.{Definition}
use Rattle.mv_move_types.specs.declared.tables.Field.{Field}
use Rattle.mv_move_types.specs.declared.tables.FunctionHandle.{FunctionHandle}
use Rattle.mv_move_types.specs.declared.token.Token.{Token}
use Rattle.mv_move_types.specs.Options.{◌>>=◌}
use Rattle.mv_move_types.specs.AbilitySets.{same_abilities}
use Rattle.mv_move_types.specs.Module.{Module, FunctionDefinition, StructDefinition, name_at, name_of_struct, struct_abilities}
use Rattle.mv_move_types.specs.Named.{is_public}
use Rattle.mv_move_types.specs.Tags.{Tag, LeafTag, StructTag, ReferenceTag, same_tag}
use Rattle.mv_interface.specs.declared.interface.Interface.{Interface}
use Rattle.mv_interface.specs.declared.interface.LinkedType.{LinkedType}
use Rattle.mv_interface.specs.declared.interface.LinkedType.TheVariants.{Plain, Reference, MutableReference}
use Rattle.mv_interface.specs.declared.shapes.Part.{Part}
use Rattle.mv_interface.specs.declared.shapes.Part.TheVariants.{Leaf, Struct, Nothing}
use Rattle.mv_interface.specs.Outline.{FunctionOutline, StructOutline, are_names}
use Rattle.mv_link_rules.specs.StoreRules.{function_named}
use Rattle.mv_bound_rules.specs.TypesByName.{both_there, token_named}

-- what a kept field is made of, by names
abbrev pub part_named : List Module → Part → Option Tag
part_named modules (Leaf kind) = Some (LeafTag kind)
part_named modules (Struct d) = name_at modules d.place d.index >>= λ name. Some (StructTag name)
part_named modules Nothing = None

-- a kept type, by names
abbrev pub kept_named : List Module → LinkedType → Option Tag
kept_named modules (Plain p) = part_named modules p
kept_named modules (Reference p) = part_named modules p >>= λ tag. Some (ReferenceTag false tag)
kept_named modules (MutableReference p) = part_named modules p >>= λ tag. Some (ReferenceTag true tag)

-- whether fields of a module are made of these, by names
abbrev pub are_parts : List Module → List Part → Module → List Field → Bool
are_parts old [] n [] = true
are_parts old [] n (g ∷ gs) = false
are_parts old (p ∷ ps) n [] = false
are_parts old (p ∷ ps) n (g ∷ gs) = both_there same_tag (part_named old p) (token_named n g.token) && are_parts old ps n gs

-- whether types of a module are these kept ones, by names
abbrev pub are_kept : List Module → List LinkedType → Module → List Token → Bool
are_kept old [] n [] = true
are_kept old [] n (u ∷ us) = false
are_kept old (x ∷ xs) n [] = false
are_kept old (x ∷ xs) n (u ∷ us) = both_there same_tag (kept_named old x) (token_named n u) && are_kept old xs n us

-- Below: what is computed for rule h, of the struct or the function of an old module at an index and a new one.

-- kept types that are there are those of a signature
abbrev pub kept_at : List Module → Option (List LinkedType) → Module → ℕ → Bool
kept_at modules kept n signature = option_map_or (λ xs. option_map_or (are_kept modules xs n) (slice_get n.signatures signature) false) kept false

-- the struct has the name, the abilities and the fields of the new one
abbrev pub struct_same : List Module → Interface → Definition → Module → StructDefinition → Bool
struct_same modules i d n e =
    both_there (λ a b. bytes_eq a.name b.name) (name_at modules d.place d.index) (name_of_struct n e)
    && both_there same_abilities (option_map (λ (s : StructOutline). s.abilities) (slice_get i.outline.structs d.index)) (struct_abilities n e)
    && (option_map_or (λ names. are_names names n e.fields) (slice_get i.outline.fields d.index) false
    && option_map_or (λ ps. are_parts modules ps n e.fields) (slice_get i.parts d.index) false)

-- the function has the types of the new one
abbrev pub types_same : List Module → Interface → ℕ → Module → FunctionDefinition → Bool
types_same modules i k n e =
    option_map_or (λ (h : FunctionHandle). kept_at modules (slice_get i.parameters k) n h.parameters && kept_at modules (slice_get i.results k) n h.results)
    (slice_get n.function_handles e.handle) false

-- the function is private, or stays public with its types
abbrev pub function_same : List Module → Interface → ℕ → Module → Bool
function_same modules i k n =
    not (option_map_or (λ (f : FunctionOutline). f.is_public) (slice_get i.outline.functions k) false)
    || option_map_or (λ (e : FunctionDefinition). is_public e && types_same modules i k n e)
    (option_map (λ (f : FunctionOutline). f.identifier) (slice_get i.outline.functions k) >>= function_named n) false
