-- The shape of a certificate for a module.
use Rattle.std.specs.Prelude.{ℕ, Bool, false, length, ◌&&◌, nat_le, ◌==◌, ◌≡◌, ◌↔◌, true, IsTrue, Option, Some, IsSome, slice_get, List, [], ◌∷◌}
use Rattle.std.specs.Option.{option_map_or}
use Rattle.std.specs.List.{list_all}
use Rattle.mv_move_types.specs.Limits.{most_edges, most_positions}
use Rattle.mv_move_types.specs.Module.{Module, FunctionDefinition, local_tokens}
use Rattle.mv_certificate_rules.specs.Nodes.{edge_is_there}
use Rattle.mv_edges.specs.Edges.{Edge}
use Rattle.mv_certificate_rules.specs.Certificate.{Known, Stated, Certificate}
use Rattle.mv_edges.specs.Ascending.{are_ascending}
use Rattle.mv_cfg.specs.Blocks.{BasicBlock, blocks, IsReached}
use Rattle.mv_type_rules.specs.TypesHold.{point_at}

-- an edge may stand where a block begins, and its list is short
abbrev pub edge_fits : Module → FunctionDefinition → Edge → Bool
edge_fits m d e = edge_is_there (point_at m d []) e && nat_le (length e.label.path) most_positions

-- what is known fits the function: its locals, and few edges that ascend
abbrev pub known_fits : Module → FunctionDefinition → Known → Bool
known_fits m d known =
    option_map_or (λ tokens. length known.locals == length tokens) (local_tokens m d) false
    && nat_le (length known.edges) most_edges && list_all (edge_fits m d) known.edges && are_ascending known.edges

-- a state is stated exactly where the block is reached, and fits
pub record StatedFits (m : Module) (d : FunctionDefinition) (stated : Stated) : Type 0 where
  pub long : length stated ≡ length (blocks d.code)
  pub marks : (i : ℕ) (b : BasicBlock) (k : Option Known) → slice_get (blocks d.code) i ≡ Some b → slice_get stated i ≡ Some k
      → IsSome k ↔ IsReached d.code b.first
  pub fits : IsTrue (list_all (λ k. option_map_or (known_fits m d) k true) stated)

-- what is stated fits, function by function
abbrev pub AllStatedFit : Module → List FunctionDefinition → Certificate → Type 0
AllStatedFit m [] [] = Unit {0}
AllStatedFit m [] (c ∷ cs) = ⊥
AllStatedFit m (d ∷ ds) [] = ⊥
AllStatedFit m (d ∷ ds) (c ∷ cs) = StatedFits m d c × AllStatedFit m ds cs
