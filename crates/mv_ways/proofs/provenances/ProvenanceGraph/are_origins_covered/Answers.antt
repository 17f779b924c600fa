use Rattle.mv_edges.proofs.Common.{◌≡◌, ◌&&◌, ◌<◌, ◌+◌, ◌∙◌, ◌∷◌, [], Some, ap, append-nil, arith, edges_leq, flat_map, get_or, length, slice_get, slice_get-get_or, sym, take}
use Rattle.std.proofs.Math.Bool.{and-true}
use Rattle.mv_ways.specs.Behind.{edges_from, tail_edges}
use Rattle.mv_ways.specs.Covered.{open_tail}
use Rattle.mv_ways.proofs.ProvenanceGraph.Covered.{all_and_not, origin_covered, origins_more, noted_more}
use Rattle.mv_ways.proofs.provenances.ProvenanceGraph.are_origins_covered.Goals as goal
use Rattle.mv_ways.proofs.provenances.ProvenanceGraph.are_origins_covered.Goals.{then-is_origin_under, else-is_origin_under}

pub loop-index-preserved : goal.loop-index-preserved
loop-index-preserved c =
    let g = c.args.self.now in
    let to = c.args.to in
    let others = c.args.others.now in
    let origins = c.args.origins.now in
    let i = c.loop-index.index in
    let all = c.loop-index.all in
    let d = c.index-origins-index.result in
    let f = edges_from g.sources to (open_tail [] ∷ []) in
    let test = c.loop-index-test.true in
    let inside : i < length origins = omega (arith, test) in
    let there : slice_get origins i ≡ Some d = slice_get-get_or origins i d inside ∙ ap Some (sym c.index-origins-index.is) in
    let own : edges_leq (tail_edges g.sources to d (open_tail [])) others ≡ c.is_origin_under.result = sym c.is_origin_under.ensures in
    let one : edges_leq (f d) others ≡ c.is_origin_under.result = ap (λ es. edges_leq es others) (append-nil (tail_edges g.sources to d (open_tail []))) ∙ own in
    let more : edges_leq (flat_map f (take (i + 1) origins)) others ≡ (all && c.is_origin_under.result) =
    origins_more f others origins i d inside ∙ ap (λ b. b && edges_leq (f (get_or origins i d)) others) (sym c.loop-index.invariant.all)
    ∙ ap (λ x. all && edges_leq (f x) others) (sym c.index-origins-index.is) ∙ ap (λ b. all && b) one in
    elim c.if-is_origin_under.branch [
      | then-is_origin_under w ↦
          let long : length w.note.new.covered ≡ length c.loop-index.covered = omega (arith, w.note.auto.covered) in
          record {
            covered = rw w.covered-is (noted_more g to others c.loop-index.covered w.note.new.covered c.args.place i long w.note.ensures
                (origin_covered g to others c.args.place i origins d c.requires.there there (own ∙ w.if-is_origin_under.true)) c.loop-index.invariant.covered);
            all = w.all-is ∙ sym (more ∙ ap (λ b. all && b) w.if-is_origin_under.true ∙ and-true all);
          }
      | else-is_origin_under w ↦ record {
        covered = rw w.covered-is c.loop-index.invariant.covered;
        all = w.all-is ∙ sym (more ∙ all_and_not all c.is_origin_under.result w.if-is_origin_under.false);
      }
    ]
