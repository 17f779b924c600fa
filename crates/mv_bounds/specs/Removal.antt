-- Nodes are removed from a graph one by one, each once no edge from those that remain leads to it.
--   edges_to graph removed j how many edges lead to node j from nodes that are not removed
--   Released ..              edges to some targets are gone
use Rattle.std.specs.Prelude.{◌≡◌, ◌+◌, ◌<◌, ℕ, Bool, cond, List, [], ◌∷◌, length, slice_index, nat_lt, IsTrue}
use Rattle.std.specs.List.{list_all}
use Rattle.mv_bound_rules.specs.Times.{times, is_zero}

-- how many edges lead to a node from nodes that are not removed; a node without a mark is not
abbrev pub edges_to : List (List ℕ) → List Bool → ℕ → ℕ
edges_to [] removed j = 0
edges_to (successors ∷ graph) [] j = times j successors + edges_to graph [] j
edges_to (successors ∷ graph) (r ∷ removed) j = cond r 0 (times j successors) + edges_to graph removed j

-- whether all are nodes, where there are so many
abbrev pub are_nodes : ℕ → List ℕ → Bool
are_nodes n xs = list_all (λ x. nat_lt x n) xs

-- edges to these targets are gone from the counts, and a node that no edge leads to any more is ready
pub record Released (n : ℕ) (before after ready ready' targets : List ℕ) : Type 0 where
  pub len : length after ≡ n
  pub edges : (j : ℕ) → j < n → slice_index after j + times j targets ≡ slice_index before j
  pub sources : (j : ℕ) → j < n → times j ready' + is_zero (slice_index before j) ≡ times j ready + is_zero (slice_index after j)
  pub nodes : IsTrue (are_nodes n ready) → IsTrue (are_nodes n ready')
