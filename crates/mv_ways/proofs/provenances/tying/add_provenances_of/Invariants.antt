use Rattle.mv_edges.proofs.Common.{◌≡◌, fold, take}
use Rattle.mv_ways.specs.Provenances.{added_once, provenances_at}
use Rattle.mv_ways.proofs.provenances.tying.add_provenances_of.Given as goal

-- with the provenances of the references so far
abbrev pub invariant-loop-r : goal.invariant-loop-r
invariant-loop-r l = l.provenances.items ≡ fold added_once l.fn.provenances.items (provenances_at l.n (take l.r-index l.references))
