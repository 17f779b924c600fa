use Rattle.std.proofs.Common.{◌≡◌, ℕ, length, slice_get, Some}
use Rattle.mv_cfg.specs.declared.Block.{Block}
use Rattle.mv_cfg.specs.Steps.{IsPart}
use Rattle.mv_cfg.proofs.split.Given as goal

abbrev pub invariant-loop-k : goal.invariant-loop-k
invariant-loop-k l = record { count : length l.blocks.items ≡ l.k; each : (j : ℕ) (b : Block) → slice_get l.blocks.items j ≡ Some b → IsPart l.code l.firsts l.places j b }
