use Rattle.mv_edges.proofs.Common.{[], ◌≡◌, flat_map, fold, take}
use Rattle.mv_ways.specs.Provenances.{added_once, provenances_at}
use Rattle.mv_ways.proofs.provenances.ProvenanceGraph.provenances_of.Given as goal

abbrev pub invariant-loop-n : goal.invariant-loop-n
invariant-loop-n l = l.provenances.items ≡ fold added_once [] (flat_map (λ n. provenances_at n l.self.references) (take l.n-index l.nodes))
