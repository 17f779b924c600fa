-- Each instruction of each block finds the types that it needs.
--   types_through m d is s           the types after these instructions, within the limit after each (why: decision 5)
--   block_is_typed m d b             a block's instructions find what they need, and nothing is on the stack behind them
--   function_is_typed, TypesHold m   phase 8: this holds in every block, reached or not, of a function and of all functions
--   Point, point_at m d types        where a rule of the analyses above stands: a function, and the types on its stack
use Rattle.std.specs.Prelude.{nat_le, cond, List, [], ◌∷◌, length, Option, Some, None, ◌+◌, Bool, false, ◌==◌, slice_range, IsTrue}
use Rattle.std.specs.Option.{option_map_or}
use Rattle.std.specs.List.{list_all}
use Rattle.mv_move_types.specs.Limits.{most_operands}
use Rattle.mv_move_types.specs.declared.instruction.Instruction.{Instruction}
use Rattle.mv_move_types.specs.Options.{◌>>=◌}
use Rattle.mv_move_types.specs.Module.{Module, FunctionDefinition}
use Rattle.mv_type_rules.specs.TypeRules.{Types, types_after}
use Rattle.mv_cfg.specs.Blocks.{BasicBlock, blocks}

-- the types after these instructions, where each finds what it needs and the stack never has more than 128
abbrev pub types_through : Module → FunctionDefinition → List Instruction → Types → Option Types
types_through m d [] stack = Some stack
types_through m d (i ∷ is) stack = do
  after ← types_after m d i stack
  cond (nat_le (length after) most_operands) (types_through m d is after) None

-- a block begins and ends with nothing on the stack
abbrev pub block_is_typed : Module → FunctionDefinition → BasicBlock → Bool
block_is_typed m d b =
    option_map_or (λ stack. length stack == 0) (types_through m d (slice_range d.code b.first (b.last + 1)) []) false

-- in every block, reached or not
abbrev pub function_is_typed : Module → FunctionDefinition → Bool
function_is_typed m d = list_all (block_is_typed m d) (blocks d.code)

-- in every function
abbrev pub TypesHold : Module → Type 0
TypesHold m = IsTrue (list_all (function_is_typed m) m.functions)

-- where a rule stands: the module, the function, and the types on the stack before the instruction
pub record Point : Type 0 where
  pub home : Module
  pub function : FunctionDefinition
  pub types : Types

-- where a function stands, with these types on the stack
abbrev pub point_at : Module → FunctionDefinition → Types → Point
point_at m d types = record { home = m; function = d; types = types }
