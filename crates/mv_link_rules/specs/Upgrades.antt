-- What a module has to keep of the one that it replaces: rule h of linking.
--   same_fields m fs n gs    two lists of fields have the same names and types, in order
--   structs_stay m ds n es   the old struct definitions stand in their places, with names, abilities and fields
--   function_stays m n d     a public function stays public, with the same types
--   may_replace m n          rule h: the module n may take the place of m
-- The others are parts of these. How this is tested: decision 83.
use Rattle.std.specs.Prelude.{Bool, true, false, not, ◌&&◌, ◌||◌, List, [], ◌∷◌, slice_get}
use Rattle.std.specs.List.{list_all}
use Rattle.std.specs.Option.{option_map_or}
use Rattle.std.specs.Str.{bytes_eq}
use Rattle.mv_move_types.specs.declared.tables.FunctionHandle.{FunctionHandle}
use Rattle.mv_move_types.specs.declared.tables.Field.{Field}
use Rattle.mv_move_types.specs.Options.{◌>>=◌}
use Rattle.mv_move_types.specs.AbilitySets.{same_abilities}
use Rattle.mv_move_types.specs.Tags.{same_tag}
use Rattle.mv_move_types.specs.Module.{Module, StructDefinition, FunctionDefinition, name_of_struct, name_of_function, struct_abilities}
use Rattle.mv_move_types.specs.Named.{is_public}
use Rattle.mv_bound_rules.specs.TypesByName.{both_there, token_named, same_signature}
use Rattle.mv_link_rules.specs.StoreRules.{function_named}

-- two fields have one name and one type
abbrev pub same_field : Module → Field → Module → Field → Bool
same_field m f n g =
    both_there bytes_eq (slice_get m.identifiers f.name) (slice_get n.identifiers g.name) && both_there same_tag (token_named m f.token) (token_named n g.token)

-- two lists of fields have the same names and types, in order
abbrev pub same_fields : Module → List Field → Module → List Field → Bool
same_fields m [] n [] = true
same_fields m [] n (g ∷ gs) = false
same_fields m (f ∷ fs) n [] = false
same_fields m (f ∷ fs) n (g ∷ gs) = same_field m f n g && same_fields m fs n gs

-- two definitions have one name, the same abilities and the same fields
abbrev pub same_struct_definition : Module → StructDefinition → Module → StructDefinition → Bool
same_struct_definition m d n e =
    both_there (λ a b. bytes_eq a.name b.name) (name_of_struct m d) (name_of_struct n e)
    && both_there same_abilities (struct_abilities m d) (struct_abilities n e)
    && same_fields m d.fields n e.fields

-- the old struct definitions stand in the new module in their places
abbrev pub structs_stay : Module → List StructDefinition → Module → List StructDefinition → Bool
structs_stay m [] n es = true
structs_stay m (d ∷ ds) n [] = false
structs_stay m (d ∷ ds) n (e ∷ es) = same_struct_definition m d n e && structs_stay m ds n es

-- two function definitions have the same parameters and results
abbrev pub have_one_type : Module → FunctionDefinition → Module → FunctionDefinition → Bool
have_one_type m d n e =
    both_there (λ (a b : FunctionHandle). same_signature m a.parameters n b.parameters && same_signature m a.results n b.results)
    (slice_get m.function_handles d.handle) (slice_get n.function_handles e.handle)

-- a public function stays public, with the same types
abbrev pub function_stays : Module → Module → FunctionDefinition → Bool
function_stays m n d =
    not (is_public d)
    || option_map_or (λ (e : FunctionDefinition). is_public e && have_one_type m d n e) (name_of_function m d >>= function_named n) false

-- the new module may take the old one's place
abbrev pub may_replace : Module → Module → Bool
may_replace m n = structs_stay m m.structs n n.structs && list_all (function_stays m n) m.functions
