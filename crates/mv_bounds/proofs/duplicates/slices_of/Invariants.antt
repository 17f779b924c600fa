use Rattle.mv_bounds.proofs.Common.{◌≡◌, map, take}
use Rattle.mv_bounds.proofs.duplicates.slices_of.Given as goal

abbrev pub invariant-loop-list : goal.invariant-loop-list
invariant-loop-list l = map (λ slice. slice.now) l.slices.items ≡ map (λ list. list.items) (take l.list-index l.lists)
