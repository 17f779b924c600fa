-- What a report tells, entry by entry: stored values, or tallies.
--   Item                          an entry
--   line_of, object_of modules i  its text as a line, and as an object of JSON
--   values_in source              the stored values that are left of a range, of a page or of changed keys
--   items_in told                 the entries that are left of a report
--   item_of entry                 one of them
--   with_first found items        one that was read, in front of others
use Rattle.std.specs.Prelude.{ℕ, List, ◌∷◌, map, Option, Some, None}
use Rattle.mv_move_types.specs.Module.{Module}
use Rattle.mv_machine.specs.Flat.{FlatEntry, value_under}
use Rattle.mv_machine.specs.Lines.{entry_line, entry_object, count_line, count_object}
use Rattle.mv_machine.specs.Tallies.{tallied}
use Rattle.mv_machine.specs.declared.Tally.{Tally}
use Rattle.mv_lines.specs.Auditing.{stored_of}
use Rattle.mv_lines.specs.Changed.{values_had, values_has}
use Rattle.mv_lines.specs.declared.source.Source.{Source}
use Rattle.mv_lines.specs.declared.source.Source.TheVariants.{Range, Page, Had, Has}
use Rattle.mv_lines.specs.declared.source.Entry.{Entry}
use Rattle.mv_lines.specs.declared.source.Entry.TheVariants.{Value, Count}
use Rattle.mv_lines.specs.declared.source.Told.{Told}
use Rattle.mv_lines.specs.declared.source.Told.TheVariants.{Values, Counts}

-- a stored value as leaves, or a struct's tally
pub data Item : Type 0 where
  OfValue : FlatEntry → Item
  OfTally : Tally → Item

-- its line
abbrev pub line_of : List Module → Item → List ℕ
line_of modules (OfValue e) = entry_line modules (record { key = e.key; value = value_under modules e.key e.words })
line_of modules (OfTally t) = count_line (stored_of (tallied modules t)) (tallied modules t)

-- its object
abbrev pub object_of : List Module → Item → List ℕ
object_of modules (OfValue e) = entry_object modules (record { key = e.key; value = value_under modules e.key e.words })
object_of modules (OfTally t) = count_object (stored_of (tallied modules t)) (tallied modules t)

-- the stored values that are left
abbrev pub values_in : Source → List FlatEntry
values_in (Range entries) = entries
values_in (Page page) = page.values
values_in (Had changes) = values_had changes
values_in (Has changes) = values_has changes

-- the entries that are left
abbrev pub items_in : Told → List Item
items_in (Values source) = map OfValue (values_in source)
items_in (Counts tallies) = map OfTally tallies

-- one of them
abbrev pub item_of : Entry → Item
item_of (Value key words) = OfValue (record { key = key; words = words.now })
item_of (Count tally) = OfTally tally.now

-- one that was read, in front of others
abbrev pub with_first : Option Entry → List Item → List Item
with_first None items = items
with_first (Some e) items = item_of e ∷ items
