use Rattle.mv_bound_rules.proofs.Common.{take, ArePlaces}
use Rattle.mv_bound_rules.proofs.places.places.Given as goal

abbrev pub invariant-loop-i : goal.invariant-loop-i
invariant-loop-i l = ArePlaces (take l.i l.defined) l.handles l.places.items
