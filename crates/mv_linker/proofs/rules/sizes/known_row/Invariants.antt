use Rattle.std.proofs.Common.{◌≡◌, map, take, Some}
use Rattle.mv_linker.specs.declared.rules.sizes.Size.{Size}
use Rattle.mv_linker.proofs.rules.sizes.known_row.Given as goal

abbrev pub invariant-loop-size : goal.invariant-loop-size
invariant-loop-size l = take l.size-index l.row ≡ map (λ (s : Size). Some s) l.known.items
