use Rattle.mv_edges.proofs.Common.{[], ◌++◌, ◌∙◌, ◌∷◌, ◌≡◌, Some, ap, get_or, subst}
use Rattle.mv_ways.specs.Made.{IsPlaced}
use Rattle.mv_ways.specs.Provenances.{an_origin}
use Rattle.mv_ways.specs.declared.provenances.made.Group.{Group}
use Rattle.mv_ways.proofs.ProvenanceGraph.Made.{edge_added}
use Rattle.mv_ways.proofs.provenances.ProvenanceGraph.grouped.Goals as goal

pub loop-number-preserved : goal.loop-number-preserved
loop-number-preserved c =
    let e = c.index-edges-number.result in
    let y : Group = record { to = c.index_mut.result.now.to; origins = c.push.new.self } in
    let before = c.loop-number.groups.items in
    let after = c.group_at.new.groups.items in
    let place = c.in_ok-place.place in
    let g = c.index_mut.result.now in
    let is : g ≡ get_or after place g = c.index_mut.ensures.value in
    let label : c.in_ok-label.label ≡ e.label = c.in_ok-label.ensures ∙ c.label.ensures in (
      edge_added c.loop-number.self.sources c.source_behind.new.self.sources before after c.in_ok-source.ensures.more c.in_ok-source.source place g y e c.args.edges.now c.loop-number.number
          (c.in_ok-source.ensures.there ∙ ap Some c.from.ensures) c.in_ok-source.ensures.known (subst (λ n. IsPlaced n before after place) c.to-in-loop-number.ensures c.in_ok-place.ensures)
          (ap (λ (x : Group). x.to) is)
          (c.in_ok-push.ensures.items ∙ (λ i. (is i).origins.items ++ an_origin c.in_ok-source.source (label i) ∷ []))
          c.loop-number-test.true c.index-edges-number.is c.loop-number.invariant.0,
      c.in_ok-source.ensures.edges ∙ c.loop-number.invariant.1,
    )
