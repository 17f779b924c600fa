-- The modules that a store has once a bundle joins it, and where each of the bundle stands among them.
--   offered news                        the modules of a bundle
--   with_table, with_tables             the modules with one more, and with a bundle: each takes the place of its name, or the last one
--   place_for, places_in                the place that a module takes, and those that a bundle's take
--   all_named ns                        whether modules have names
--   found_among name ns places before   where a bundle's last module of a name stands, otherwise what was found before
use Rattle.std.specs.Prelude.{ℕ, Bool, cond, is_some, List, [], ◌∷◌, length, map, Option, Some, unwrap_or}
use Rattle.std.specs.List.{list_all}
use Rattle.mv_move_types.specs.Names.{ModuleName}
use Rattle.mv_move_types.specs.Module.{Module, own_name}
use Rattle.mv_move_types.specs.Named.{is_module, have_one_name}
use Rattle.mv_move_types.specs.Options.{find_index}
use Rattle.mv_linker.specs.declared.New.{New}

-- the modules of a bundle
abbrev pub offered : List New → List Module
offered news = map (λ n. n.module) news

-- the modules with one more, which takes the place of the module of its name, or the last place
abbrev pub with_table : List Module → Module → List Module
with_table [] n = n ∷ []
with_table (m ∷ ms) n = cond (have_one_name n m) (n ∷ ms) (m ∷ with_table ms n)

-- the modules with those of a bundle, one after the other
abbrev pub with_tables : List Module → List Module → List Module
with_tables ms [] = ms
with_tables ms (n ∷ ns) = with_tables (with_table ms n) ns

-- the place that a module takes
abbrev pub place_for : List Module → Module → ℕ
place_for ms n = unwrap_or (find_index (have_one_name n) ms) (length ms)

-- the places that the modules of a bundle take
abbrev pub places_in : List Module → List Module → List ℕ
places_in ms [] = []
places_in ms (n ∷ ns) = place_for ms n ∷ places_in (with_table ms n) ns

-- whether modules have names
abbrev pub all_named : List Module → Bool
all_named ns = list_all (λ n. is_some (own_name n)) ns

-- the place of the last of a bundle with this name, or else what was found before
abbrev pub found_among : ModuleName → List Module → List ℕ → Option ℕ → Option ℕ
found_among name [] places before = before
found_among name (n ∷ ns) [] before = before
found_among name (n ∷ ns) (p ∷ places) before = found_among name ns places (cond (is_module name n) (Some p) before)
