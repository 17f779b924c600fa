-- What the availabilities of a state are, wherever they stand.
use Rattle.std.specs.Prelude.{List}
use Rattle.mv_move_types.specs.declared.borrow.Availability.{Availability}
use Rattle.mv_locals_safety.specs.declared.states.Places.{Places}
use Rattle.mv_locals_safety.specs.declared.states.Places.TheVariants.{Inside, Outside}

abbrev pub availabilities_at : Places → List Availability
availabilities_at (Inside few) = few
availabilities_at (Outside many) = many.items
