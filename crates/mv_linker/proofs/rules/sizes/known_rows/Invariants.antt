use Rattle.std.proofs.Common.{◌≡◌, map, take, Option, Some, Vec, Global}
use Rattle.mv_linker.specs.declared.rules.sizes.Size.{Size}
use Rattle.mv_linker.proofs.rules.sizes.known_rows.Given as goal

abbrev pub invariant-loop-row : goal.invariant-loop-row
invariant-loop-row l = take l.row-index (map (λ (r : Vec (Option Size) Global). r.items) l.rows) ≡ map (λ (r : Vec Size Global). map (λ (s : Size). Some s) r.items) l.known.items
