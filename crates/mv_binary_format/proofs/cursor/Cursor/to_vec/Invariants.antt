use Rattle.mv_binary_format.proofs.Common.{◌++◌, ◌≡◌, ◌+◌, ◌≤◌, length}
use Rattle.std.specs.Vec.{vec_len, vec_capacity}
use Rattle.mv_binary_format.proofs.cursor.Cursor.to_vec.Given as goal

abbrev pub invariant-loop-instruction : goal.invariant-loop-instruction
invariant-loop-instruction l =
    (l.instructions.items ++ l.instruction-iterator ≡ l.fn.self)
    × (vec_len l.instructions + length l.instruction-iterator ≤ vec_capacity l.instructions)
