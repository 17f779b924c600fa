-- What a label's positions are, wherever they stand.
use Rattle.std.specs.Prelude.{ℕ, List}
use Rattle.mv_edges.specs.declared.path.Places.{Places}
use Rattle.mv_edges.specs.declared.path.Places.TheVariants.{Inside, Outside}

abbrev pub positions_at : Places → List ℕ
positions_at (Inside positions) = positions
positions_at (Outside positions) = positions.items
