-- The types on a stack before each of many instructions, in one list.
use Rattle.std.specs.Prelude.{ℕ, ◌≤◌, List, map, reverse, slice_range}
use Rattle.mv_move_types.specs.declared.token.Token.{Token}
use Rattle.mv_type_rules.specs.declared.stack_types.Part.{Part}
use Rattle.mv_type_rules.specs.TypeRules.{Types}

-- the types of a part, the topmost first
abbrev pub types_of : List Token → Part → Types
types_of tokens p = reverse (slice_range tokens p.start p.end)

-- the types of each part
abbrev pub types_of_each : List Token → List Part → List Types
types_of_each tokens parts = map (types_of tokens) parts

-- a part is within so many
pub record IsWithin (size : ℕ) (p : Part) : Type 0 where
  pub start : p.start ≤ p.end
  pub end : p.end ≤ size
