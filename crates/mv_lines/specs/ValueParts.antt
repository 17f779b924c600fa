-- Values by what the fields of their structs are made of.
--   value_at depth modules d words       the value of the struct at a place and an index that begins with these leaves
--   part_from modules depth part words   that of a field which is made of a part
--   parts_from value parts words         those of fields, one after the other
--   Extends old new                      a text begins with the old one
use Rattle.std.specs.Prelude.{◌≡◌, ℕ, List, [], ◌∷◌, ◌++◌, Option, Some, None}
use Rattle.mv_move_types.specs.declared.tables.Definition.{Definition}
use Rattle.mv_move_types.specs.Options.{◌>>=◌}
use Rattle.mv_move_types.specs.Module.{Module, name_at}
use Rattle.mv_machine.specs.Value.{Value, Values, NoMore, More}
use Rattle.mv_machine.specs.Value.{Leaf as LeafValue}
use Rattle.mv_machine.specs.Flat.{struct_from}
use Rattle.mv_interface.specs.declared.shapes.Part.{Part}
use Rattle.mv_interface.specs.declared.shapes.Part.TheVariants.{Leaf, Struct, Nothing}

-- the value of the struct at a place and an index that begins with these leaves, if its nesting is at most so much, and the
-- leaves after it
abbrev pub value_at : ℕ → List Module → Definition → List ℕ → Option (Value × List ℕ)
value_at depth modules d words = name_at modules d.place d.index >>= λ name. struct_from depth modules name words

-- the value of a field that is made of a part
abbrev pub part_from : List Module → ℕ → Part → List ℕ → Option (Value × List ℕ)
part_from modules depth (Leaf kind) [] = None
part_from modules depth (Leaf kind) (n ∷ words) = Some (LeafValue kind n, words)
part_from modules depth (Struct d) words = value_at depth modules d words
part_from modules depth Nothing words = None

-- those of fields, one after the other
abbrev pub parts_from : (Part → List ℕ → Option (Value × List ℕ)) → List Part → List ℕ → Option (Values × List ℕ)
parts_from value [] words = Some (NoMore, words)
parts_from value (part ∷ parts) words = do
  first ← value part words
  rest ← parts_from value parts first.1
  Some (More first.0 rest.0, rest.1)

-- a text begins with the old one
abbrev pub Extends : List ℕ → List ℕ → Type 0
Extends old new = (more : List ℕ) × (new ≡ old ++ more)
