-- The code of a function as it stands in a module's bytes.
--   instructions_stand version n bytes   whether so many instructions stand at the front of the bytes
--   instructions_in version n bytes      these instructions
use Rattle.std.specs.Prelude.{ℕ, Bool, List, [], is_some}
use Rattle.std.specs.Option.{option_map_or}
use Rattle.mv_move_types.specs.declared.instruction.Instruction.{Instruction}
use Rattle.mv_module_text.specs.Parsing.{entries_from, instruction_from}

-- whether so many instructions stand at the front
unfoldable pub instructions_stand : ℕ → ℕ → List ℕ → Bool
instructions_stand version n bytes = is_some (entries_from (instruction_from version) n bytes)

-- so many instructions at the front, or none if they do not stand there
unfoldable pub instructions_in : ℕ → ℕ → List ℕ → List Instruction
instructions_in version n bytes = option_map_or (λ read. read.0) (entries_from (instruction_from version) n bytes) []
