use Rattle.mv_edges.proofs.Common.{◌≡◌, ◌&&◌, ◌<◌, ◌∙◌, ◌∷◌, [], Some, ap, append-nil, arith, edges_leq, false, get_or, length, slice_get, slice_get-get_or, sym, true}
use Rattle.std.proofs.lemmas.List.Folds.{list_all_at}
use Rattle.mv_ways.specs.Behind.{edges_from, tail_edges}
use Rattle.mv_ways.specs.Covered.{open_tail, stated}
use Rattle.mv_ways.proofs.ProvenanceGraph.Covered.{origins_more, noted_covered}
use Rattle.mv_ways.proofs.ProvenanceGraph.Under.{leq_each_of, some_provenance}
use Rattle.mv_ways.proofs.provenances.ProvenanceGraph.are_origins_under.Goals as goal
use Rattle.mv_ways.proofs.provenances.ProvenanceGraph.are_origins_under.Goals.{else-not-is_noted-via-then-not-is_noted+else-not-is_origin_under, else-not-is_noted-via-else-not-is_noted}

pub returns-then-not-is_origin_under : goal.returns-then-not-is_origin_under
returns-then-not-is_origin_under c =
    let g = c.args.self.now in
    let to = c.args.to in
    let others = c.args.others.now in
    let origins = c.args.origins.now in
    let t = open_tail c.args.path.now in
    let i = c.loop-index.index in
    let d = c.index-origins-index.result in
    let f = edges_from g.sources to (t ∷ []) in
    let test = c.loop-index-test.true in
    let inside : i < length origins = omega (arith, test) in
    let fails : edges_leq (f (get_or origins i d)) others ≡ false =
    ap (λ es. edges_leq es others) (append-nil (tail_edges g.sources to (get_or origins i d) t))
    ∙ sym (c.is_origin_under.ensures ∙ ap (λ l. edges_leq (tail_edges g.sources to l t) others) c.index-origins-index.is) ∙ c.if-not-is_origin_under.true in
    sym (leq_each_of f others origins ∙ list_all_at (λ l. edges_leq (f l) others) origins i d inside fails)

pub loop-index-preserved : goal.loop-index-preserved
loop-index-preserved c =
    let g = c.args.self.now in
    let to = c.args.to in
    let others = c.args.others.now in
    let origins = c.args.origins.now in
    let t = open_tail c.args.path.now in
    let i = c.loop-index.index in
    let d = c.index-origins-index.result in
    let f = edges_from g.sources to (t ∷ []) in
    let test = c.loop-index-test.true in
    let inside : i < length origins = omega (arith, test) in
    let holds : edges_leq (f (get_or origins i d)) others ≡ true =
    elim c.else-not-is_noted.branch [
      | else-not-is_noted-via-then-not-is_noted+else-not-is_origin_under w ↦
          ap (λ es. edges_leq es others) (append-nil (tail_edges g.sources to (get_or origins i d) t))
          ∙ sym (w.is_origin_under.ensures ∙ ap (λ l. edges_leq (tail_edges g.sources to l t) others) c.index-origins-index.is) ∙ w.if-not-is_origin_under.false
      | else-not-is_noted-via-else-not-is_noted w ↦
          let provenance = get_or g.provenances c.args.place some_provenance in
          let at : slice_get g.provenances c.args.place ≡ Some provenance = slice_get-get_or g.provenances c.args.place some_provenance c.requires.inside in
          let there : slice_get (stated provenance) i ≡ Some (get_or origins i d) = ap (λ ls. slice_get ls i) (c.requires.there provenance at) ∙ slice_get-get_or origins i d inside in
          noted_covered g to others c.args.covered.now _ c.args.place i c.args.path.now provenance (get_or origins i d) c.requires.covered (c.is_noted.ensures.there w.if-not-is_noted.false)
          (c.is_noted.ensures.same_provenance w.if-not-is_noted.false) (c.is_noted.ensures.same_origin w.if-not-is_noted.false) at there
    ] in
    origins_more f others origins i d inside ∙ ap (λ b. b && edges_leq (f (get_or origins i d)) others) c.loop-index.invariant ∙ holds
