use Rattle.mv_linker.proofs.Common.{[], ◌≡◌, Global, Vec, map, take, New, Size}
use Rattle.mv_linker.proofs.rules.sizes.no_sizes.Given as goal

abbrev pub invariant-loop-module : goal.invariant-loop-module
invariant-loop-module l = map (λ (r : Vec Size Global). r.items) l.sizes.items ≡ map (λ (n : New). []) (take l._module-index l.bundle)
