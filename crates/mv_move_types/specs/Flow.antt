-- Where control goes from an instruction.
--   targets i                 where an instruction may branch to
--   ends_block i              whether a block ends with it, whatever follows
--   successors at i           where control goes from it
--   exit_falls_through exit   whether control may come to the next instruction
-- exit_targets, exit_ends_block and exit_successors say the same of an exit (Next, Fork, Jump, Leave).
use Rattle.std.specs.Prelude.{ℕ, List, [], Bool, true, false, ◌+◌, ◌∷◌}
use Rattle.mv_move_types.specs.declared.instruction.Instruction.{Instruction}
use Rattle.mv_move_types.specs.declared.instruction.Exit.{Exit}
use Rattle.mv_move_types.specs.declared.instruction.Exit.TheVariants.{Next, Fork, Jump, Leave}
use Rattle.mv_move_types.specs.Instructions.{exit_of}

-- where an exit may branch to
abbrev pub exit_targets : Exit → List ℕ
exit_targets Next = []
exit_targets (Fork t) = t ∷ []
exit_targets (Jump t) = t ∷ []
exit_targets Leave = []

-- where an instruction may branch to
abbrev pub targets : Instruction → List ℕ
targets i = exit_targets (exit_of i)

-- whether control never simply goes on to the next instruction
abbrev pub exit_ends_block : Exit → Bool
exit_ends_block Next = false
exit_ends_block (Fork t) = true
exit_ends_block (Jump t) = true
exit_ends_block Leave = true

-- whether a block ends with the instruction, whatever follows
abbrev pub ends_block : Instruction → Bool
ends_block i = exit_ends_block (exit_of i)

-- where control goes by an exit of the instruction at a place
abbrev pub exit_successors : ℕ → Exit → List ℕ
exit_successors at Next = (at + 1) ∷ []
exit_successors at (Fork t) = t ∷ (at + 1) ∷ []
exit_successors at (Jump t) = t ∷ []
exit_successors at Leave = []

-- where control goes from the instruction at a place
abbrev pub successors : ℕ → Instruction → List ℕ
successors at i = exit_successors at (exit_of i)

-- whether control may come to the next instruction by an exit
abbrev pub exit_falls_through : Exit → Bool
exit_falls_through Next = true
exit_falls_through (Fork t) = true
exit_falls_through (Jump t) = false
exit_falls_through Leave = false
