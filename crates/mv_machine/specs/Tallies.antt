-- Tallies of structs, which stand module by module.
--   tallied modules t   a tally with its struct's name
--   lists_of tallies    each module's tallies
--   all_of tallies      the tallies of all modules
use Rattle.std.specs.Prelude.{List, [], map, unwrap_or}
use Rattle.std.specs.List.{flat_map}
use Rattle.std.specs.Global.{Global}
use Rattle.std.specs.declared.vec.Vec.{Vec}
use Rattle.mv_move_types.specs.Names.{StructName}
use Rattle.mv_move_types.specs.Module.{Module, name_at}
use Rattle.mv_machine.specs.Lines.{Tallied}
use Rattle.mv_machine.specs.declared.Tally.{Tally}

-- no struct has this name
abbrev pub nameless : StructName
nameless = record { home = record { address = 0; name = [] }; name = [] }

-- a tally with its struct's name
abbrev pub tallied : List Module → Tally → Tallied
tallied modules t = record { struct = unwrap_or (name_at modules t.place t.index) nameless; packs = t.packs; unpacks = t.unpacks }

-- each module's tallies
abbrev pub lists_of : List (Vec Tally Global) → List (List Tally)
lists_of = map (λ v. v.items)

-- the tallies of all modules, in the order of publication
abbrev pub all_of : List (List Tally) → List Tally
all_of = flat_map (λ ts. ts)
