-- Counts of the values of structs, module by module.
--   no_counts modules          zero for each struct of the modules
--   count_at rows d            the count of the struct at a place and an index
--   with_count rows d n        the counts with so many more values of that struct
--   HasRows modules rows       there is a count of each struct
--   Adds modules n f old new   so often as many values as f says were added for each struct
--   AreStored modules es rows  the counts are of the values that are stored under the keys of each struct
--   AreAll modules es rows     the counts are of the values that are stored of each struct, at any depth
--   IsTallied rows runs t      a tally is that of a struct of which so many values are stored, after so many runs
use Rattle.std.specs.Prelude.{◌≡◌, ℕ, ◌+◌, ◌-◌, ◌*◌, ◌^◌, ◌<◌, ◌≤◌, min, ◌&&◌, ◌==◌, List, [], map, length, replicate, Some, slice_set, slice_index_or}
use Rattle.std.specs.List.{filter}
use Rattle.mv_move_types.specs.Limits.{most_steps}
use Rattle.mv_move_types.specs.declared.tables.Definition.{Definition}
use Rattle.mv_move_types.specs.Names.{StructName}
use Rattle.mv_move_types.specs.Module.{Module, name_at}
use Rattle.mv_machine.specs.Count.{count}
use Rattle.mv_machine.specs.Flat.{FlatEntry, storage_of}
use Rattle.mv_machine.specs.declared.Tally.{Tally}

-- the counts of the structs of the module at a place
abbrev pub row_at : List (List ℕ) → ℕ → List ℕ
row_at rows place = slice_index_or rows place []

-- the count of the struct at a place and an index
abbrev pub count_at : List (List ℕ) → Definition → ℕ
count_at rows d = slice_index_or (row_at rows d.place) d.index 0

-- a count, at most the greatest one
abbrev pub capped : ℕ → ℕ
capped n = min n (2 ^ 128 - 1)

-- zero for each struct of the modules
abbrev pub no_counts : List Module → List (List ℕ)
no_counts modules = map (λ m. replicate (length m.structs) 0) modules

-- the counts with so many more values of a struct, if it has one
abbrev pub with_count : List (List ℕ) → Definition → ℕ → List (List ℕ)
with_count rows d n = slice_set rows d.place (slice_set (row_at rows d.place) d.index (capped (count_at rows d + n)))

-- there is a count of each struct
abbrev pub HasRows : List Module → List (List ℕ) → Type 0
HasRows modules rows =
    (d : Definition) (name : StructName) → name_at modules d.place d.index ≡ Some name → (d.place < length rows) × (d.index < length (row_at rows d.place))

-- For each struct there are so often as many values more as f says.
pub record Adds (modules : List Module) (n : ℕ) (f : StructName → ℕ) (old new : List (List ℕ)) : Type 0 where
  pub rows : HasRows modules old → HasRows modules new
  pub counts : HasRows modules old → (d : Definition) (name : StructName) → name_at modules d.place d.index ≡ Some name
      → capped (count_at new d) ≡ capped (count_at old d + n * f name)

-- how many values are stored under the keys of a struct
abbrev pub stored_of : List FlatEntry → Definition → ℕ
stored_of entries d = length (filter (λ e. (e.key.place == d.place) && (e.key.index == d.index)) entries)

-- The counts are of the values that are stored under the keys of each struct.
pub record AreStored (modules : List Module) (entries : List FlatEntry) (rows : List (List ℕ)) : Type 0 where
  pub has : HasRows modules rows
  pub counts : (d : Definition) (name : StructName) → name_at modules d.place d.index ≡ Some name → count_at rows d ≡ stored_of entries d

-- The counts are of the values that are stored of each struct, at any depth, as far as they go.
pub record AreAll (modules : List Module) (entries : List FlatEntry) (rows : List (List ℕ)) : Type 0 where
  pub has : HasRows modules rows
  pub counts : (d : Definition) (name : StructName) → name_at modules d.place d.index ≡ Some name
      → capped (count_at rows d) ≡ capped (count (storage_of modules entries) name)

-- a tally is that of a struct of which so many values are stored, after so many runs
abbrev pub IsTallied : List (List ℕ) → ℕ → Tally → Type 0
IsTallied rows runs t = (t.packs ≤ most_steps * runs) × (count_at rows (record { place = t.place; index = t.index }) + t.unpacks ≡ t.packs)
