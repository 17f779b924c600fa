use Rattle.mv_edges.proofs.Common.{[], ◌++◌, ◌∙◌, ◌≡◌, ap, sorted}
use Rattle.mv_edges.proofs.Sorting.{sorted-ascending}
use Rattle.mv_ways.specs.Made.{grouped}
use Rattle.mv_ways.specs.Provenances.{edges_of}
use Rattle.mv_ways.proofs.provenances.ProvenanceGraph.of_edges.Goals as goal

pub returns : goal.returns
returns c =
    let sources = c.grouped.new.self.sources in
    let none : edges_of c.grouped.new.self ≡ [] = c.in_ok-groups.ensures.same ∙ ap edges_of c.new-graph.ensures in
    ap sorted (c.in_ok-refer_each.ensures ∙ ap (λ es. es ++ grouped sources c.in_ok-groups.groups.items) none)
    ∙ c.in_ok-groups.ensures.edges ∙ ap sorted c.as_slice.ensures.value ∙ sorted-ascending c.args.edges.now c.as_slice.ensures.ascending
