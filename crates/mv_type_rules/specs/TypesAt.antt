-- The types that the rules give at an instruction.
use Rattle.std.specs.Prelude.{◌≡◌, ℕ, ◌≤◌, [], Some, slice_get, slice_range}
use Rattle.mv_move_types.specs.Module.{Module, FunctionDefinition}
use Rattle.mv_cfg.specs.Blocks.{BasicBlock, blocks}
use Rattle.mv_type_rules.specs.TypeRules.{Types}
use Rattle.mv_type_rules.specs.TypesHold.{types_through}

-- the types that the rules give at an instruction, carried from the start of its block
pub record TypesAt (m : Module) (d : FunctionDefinition) (at : ℕ) (types : Types) : Type 0 where
  pub block : BasicBlock
  pub place : ℕ
  pub is_block : slice_get (blocks d.code) place ≡ Some block
  pub not_before : block.first ≤ at
  pub not_behind : at ≤ block.last
  pub carried : types_through m d (slice_range d.code block.first at) [] ≡ Some types
