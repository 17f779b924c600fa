use Rattle.mv_edges.proofs.Common.{◌≡◌, Node, flat_map, length, list_all, map, take, true}
use Rattle.std.specs.Prelude.{nat_lt}
use Rattle.mv_ways.specs.Origins.{Origin}
use Rattle.mv_ways.specs.Provenances.{edges_of, origin_edges}
use Rattle.mv_ways.proofs.ProvenanceGraph.Stating.{changed_edge}
use Rattle.mv_ways.proofs.provenances.ProvenanceGraph.origins.Given as goal

abbrev pub invariant-loop-e : goal.invariant-loop-e
invariant-loop-e l = record {
  known : list_all (λ (x : Origin). nat_lt x.source (length l.self.sources)) l.origins.items ≡ true;
  provenances : l.self.provenances ≡ l.fn.self.provenances;
  references : l.self.references ≡ l.fn.self.references;
  edges : edges_of l.self ≡ edges_of l.fn.self;
  origins : (to : Node) → flat_map (origin_edges l.self.sources to) l.origins.items ≡ map (changed_edge l.change to) (take l.e-index l.edges);
}
