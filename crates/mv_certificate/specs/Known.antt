-- What a certificate says of an instruction of a function.
use Rattle.std.specs.Prelude.{ℕ, ◌&&◌, nat_le, List, [], Option, Some, find, zip, slice_range}
use Rattle.mv_move_types.specs.declared.instruction.Instruction.{Instruction}
use Rattle.mv_move_types.specs.Options.{◌>>=◌}
use Rattle.mv_move_types.specs.Module.{Module, FunctionDefinition}
use Rattle.mv_cfg.specs.Blocks.{BasicBlock, blocks}
use Rattle.mv_type_rules.specs.TypeRules.{Types}
use Rattle.mv_type_rules.specs.TypesHold.{Point}
use Rattle.mv_certificate_rules.specs.LocalsRules.{locals_after}
use Rattle.mv_certificate_rules.specs.BorrowRules.{edges_after}
use Rattle.mv_certificate_rules.specs.Certificate.{Known, Stated, through}

-- what is known after an instruction
abbrev pub known_after : Point → Instruction → Known → Option Known
known_after p i known = do
  locals ← locals_after p i known.locals
  edges ← edges_after p i known.edges
  Some (record { locals = locals; edges = edges })

-- the block that the instruction stands in, and what is stated of it
abbrev pub block_of : ℕ → List (BasicBlock × Option Known) → Option (BasicBlock × Option Known)
block_of i bs = find (λ b. nat_le b.0.first i && nat_le i b.0.last) bs

-- what is known, and the types, before the instruction
abbrev pub known_before : Module → FunctionDefinition → Stated → ℕ → Option (Known × Types)
known_before m d stated i = do
  b ← block_of i (zip (blocks d.code) stated)
  known ← b.1
  through known_after m d (slice_range d.code b.0.first i) (known, [])
