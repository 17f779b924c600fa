-- What is told of edges, and what a sink makes of it.
--   same_position, is_beside             two labels have the same position at a place; two edges lead between the same nodes
--   IsTold after old es more new         edges were told, and if no more are wanted, whatever comes behind them is as good as told
use Rattle.std.specs.Prelude.{ℕ, Bool, true, false, ◌&&◌, ◌==◌, List, ◌++◌, Option, Some, None}
use Rattle.mv_edges.specs.Edges.{Edge, same_node}

-- whether two edges lead between the same nodes
abbrev pub is_beside : Edge → Edge → Bool
is_beside a b = same_node a.from b.from && same_node a.to b.to

-- whether there are positions at both places, and they are the same
abbrev pub same_position : Option ℕ → Option ℕ → Bool
same_position (Some a) (Some b) = a == b
same_position (Some a) None = false
same_position None b = false

-- edges were told, and where no more are wanted, whatever comes behind them is as good as told
abbrev pub IsTold : {S : Type 0} → (S → List Edge → S → Type 0) → S → List Edge → Bool → S → Type 0
IsTold after old es true new = after old es new
IsTold after old es false new = (fs : List Edge) → after old (es ++ fs) new
