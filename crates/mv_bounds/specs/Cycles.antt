-- Chains of edges in a graph, which is given by each node's successors.
--   LeadsTo graph i j  a chain of edges leads from node i to node j
--   IsAcyclic graph    no node leads to itself
use Rattle.std.specs.Prelude.{◌≡◌, ℕ, List, slice_get, Some, Contains}

-- a chain of edges leads from one node to another
pub data LeadsTo (graph : List (List ℕ)) : ℕ → ℕ → Type 0 where
  directly : (i j : ℕ) (successors : List ℕ) → slice_get graph i ≡ Some successors → Contains successors j → LeadsTo graph i j
  further : (i j k : ℕ) → LeadsTo graph i j → LeadsTo graph j k → LeadsTo graph i k

-- no node leads to itself
abbrev pub IsAcyclic : List (List ℕ) → Type 0
IsAcyclic graph = (i : ℕ) → LeadsTo graph i i → ⊥
