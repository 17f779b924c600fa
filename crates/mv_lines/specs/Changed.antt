-- The values of keys that were changed.
--   values_had, values_has changes   those that the keys had before, and those that they have now
--   values_of side changes           those of a side
use Rattle.std.specs.Prelude.{ℕ, List, [], ◌∷◌, ◌++◌, Option, Some, None}
use Rattle.mv_move_types.specs.declared.tables.Key.{Key}
use Rattle.mv_machine.specs.Flat.{FlatEntry}
use Rattle.mv_storage.specs.Difference.{Change}
use Rattle.mv_lines.specs.declared.changed.Side.{Side}
use Rattle.mv_lines.specs.declared.changed.Side.TheVariants.{Before, Now}

-- the value of a key, if it has one
abbrev pub value_held : Key → Option (List ℕ) → List FlatEntry
value_held key None = []
value_held key (Some words) = record { key = key; words = words } ∷ []

-- those that the keys had before; keys that had none are left out
abbrev pub values_had : List Change → List FlatEntry
values_had [] = []
values_had (c ∷ cs) = value_held c.key c.before ++ values_had cs

-- those that they have now; keys that have none are left out
abbrev pub values_has : List Change → List FlatEntry
values_has [] = []
values_has (c ∷ cs) = value_held c.key c.now ++ values_has cs

-- those of a side
abbrev pub values_of : Side → List Change → List FlatEntry
values_of Before changes = values_had changes
values_of Now changes = values_has changes
