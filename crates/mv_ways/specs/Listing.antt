-- A list of edges that are told: those that are in order, and those that aren't yet.
use Rattle.std.specs.Prelude.{List, ◌++◌}
use Rattle.mv_edges.specs.Edges.{Edge}
use Rattle.mv_ways.specs.declared.provenances.sinks.Listing.{Listing}

-- all of them
abbrev pub listed : Listing → List Edge
listed l = l.ordered ++ l.items.items
