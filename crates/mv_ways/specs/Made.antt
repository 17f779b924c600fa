-- What leads to nodes, each by itself.
--   grouped sources groups       the edges of all groups
--   are_inside count groups      all origins come from the first sources alone
--   IsGroupOf to groups k        the group at a place is of a node
--   IsPlaced to before after k   the same, where there may be one group more, with no edges
use Rattle.std.specs.Prelude.{◌≡◌, ℕ, ◌<◌, nat_lt, Bool, true, List, Option, length, flat_map, slice_index_or}
use Rattle.std.specs.List.{list_all}
use Rattle.mv_move_types.specs.declared.borrow.Node.{Node}
use Rattle.mv_edges.specs.Edges.{Edge}
use Rattle.mv_ways.specs.Origins.{Origin}
use Rattle.mv_ways.specs.Provenances.{origin_edges}
use Rattle.mv_ways.specs.declared.provenances.made.Group.{Group}

-- the edges of a group
abbrev pub group_edges : List (Option Node) → Group → List Edge
group_edges sources group = flat_map (origin_edges sources group.to) group.origins.items

-- the edges of all groups
abbrev pub grouped : List (Option Node) → List Group → List Edge
grouped sources groups = flat_map (group_edges sources) groups

-- whether the origins of a group come from some of the first sources alone
abbrev pub is_inside : ℕ → Group → Bool
is_inside count group = list_all (λ (l : Origin). nat_lt l.source count) group.origins.items

-- whether those of all groups do
abbrev pub are_inside : ℕ → List Group → Bool
are_inside count groups = list_all (is_inside count) groups

-- the group at a place is of a node
pub record IsGroupOf (to : Node) (groups : List Group) (place : ℕ) : Type 0 where
  pub inside : place < length groups
  pub there : (d : Group) → (slice_index_or groups place d).to ≡ to

-- the same, where there may be one group more, with no edges
pub record IsPlaced (to : Node) (before after : List Group) (place : ℕ) : Type 0 where
  pub at : IsGroupOf to after place
  pub edges : (sources : List (Option Node)) → grouped sources after ≡ grouped sources before
  pub known : (count : ℕ) → are_inside count before ≡ true → are_inside count after ≡ true
