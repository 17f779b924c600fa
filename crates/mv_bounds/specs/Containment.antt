-- The graph of the structs of a module: which hold which in their fields.
use Rattle.std.specs.Prelude.{ℕ, List, map, Option, None, slice_get, unwrap_or}
use Rattle.std.specs.List.{filter_map}
use Rattle.mv_move_types.specs.declared.token.Token.{Token}
use Rattle.mv_move_types.specs.declared.token.Token.TheVariants.{Plain}
use Rattle.mv_move_types.specs.declared.token.ValueType.TheVariants.{OfStruct}
use Rattle.mv_move_types.specs.declared.tables.Field.{Field}
use Rattle.mv_move_types.specs.Module.{Module, StructDefinition}
use Rattle.mv_bound_rules.specs.Definitions.{defined_by}

-- the struct definitions that fields hold
abbrev pub held_by : Module → List Field → List ℕ
held_by m fields = filter_map (λ (f : Field). defined_by m f.token) fields

-- the struct definitions that each holds
abbrev pub containment : Module → List (List ℕ)
containment m = map (λ (d : StructDefinition). held_by m d.fields) m.structs

-- the definition of a type, by its handle
abbrev pub place_of : List (Option ℕ) → Token → Option ℕ
place_of places (Plain (OfStruct h)) = unwrap_or (slice_get places h) None
place_of places _ = None

-- the definitions of the types of fields
abbrev pub places_of : List (Option ℕ) → List Field → List ℕ
places_of places fields = filter_map (λ (f : Field). place_of places f.token) fields
