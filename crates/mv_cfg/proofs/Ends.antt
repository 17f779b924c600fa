-- How code ends, by its last instruction.
use Rattle.std.proofs.Common.{◌≡◌, ℕ, ◌-◌, ◌<◌, List, [], ◌∷◌, length, slice_get, Some, ap, arith, zero, suc}
use Rattle.std.proofs.lemmas.Option.{none-some, same_Some, slice_get_within}
use Rattle.mv_move_types.specs.declared.instruction.Instruction.{Instruction}
use Rattle.mv_cfg.specs.Blocks.{ends_well, may_be_last}

-- code ends well if its last instruction may stand there
pub ends_well-last : (code : List Instruction) (k : ℕ) (c : Instruction) → length code ≡ suc k → slice_get code k ≡ Some c → ends_well code ≡ may_be_last c
ends_well-last [] k c size at = absurd (none-some c at)
ends_well-last (x ∷ []) zero c size at = ap may_be_last (same_Some x c at)
ends_well-last (x ∷ []) (suc k) c size at = absurd (none-some c at)
ends_well-last (x ∷ y ∷ ys) zero c size at = absurd (omega arith)
ends_well-last (x ∷ y ∷ ys) (suc k) c size at = ends_well-last (y ∷ ys) k c (omega arith) at

pub ends_well-read : (code : List Instruction) (c : Instruction) → slice_get code (length code - 1) ≡ Some c → ends_well code ≡ may_be_last c
ends_well-read code c at =
    let within : length code - 1 < length code = slice_get_within code (length code - 1) c at in ends_well-last code (length code - 1) c (omega arith) at
