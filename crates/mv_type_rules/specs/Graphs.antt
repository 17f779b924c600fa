-- The flow graphs of functions.
use Rattle.std.specs.Prelude.{◌≡◌, ℕ, List, length, slice_get, Some}
use Rattle.mv_move_types.specs.Module.{FunctionDefinition}
use Rattle.mv_cfg.specs.declared.Cfg.{Cfg}
use Rattle.mv_cfg.specs.FlowGraph.{IsFlowGraph}

-- the graphs are those of the first functions, so many
pub record AreGraphs (functions : List FunctionDefinition) (count : ℕ) (graphs : List Cfg) : Type 0 where
  pub entries : length graphs ≡ count
  pub each : (f : ℕ) (d : FunctionDefinition) (g : Cfg) → slice_get functions f ≡ Some d → slice_get graphs f ≡ Some g → IsFlowGraph d.code g
