use Rattle.std.proofs.Common.{take, Contains}
use Rattle.mv_lattice.specs.Search.{FlowsIntoEach}
use Rattle.mv_lattice.specs.Work.{search_of}
use Rattle.mv_lattice.proofs.search.raise_all.Given as goal

abbrev pub invariant-loop-n : goal.invariant-loop-n
invariant-loop-n g l =
    FlowsIntoEach (g.D.Domain.order l.d) (Contains (take l.n-index l.blocks)) l.t (search_of l.initial.states l.initial.waiting) (search_of l.states l.waiting)
