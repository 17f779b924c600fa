use Rattle.mv_edges.proofs.Common.{◌≡◌, ◌<◌, ◌∙◌, Some, ap, arith, get_or, length, slice_get}
use Rattle.mv_ways.specs.Provenances.{all_origins, origins_of}
use Rattle.mv_ways.proofs.ProvenanceGraph.Listing.{origins_at-provenance}
use Rattle.mv_ways.proofs.ProvenanceGraph.Noted.{provenance_at}
use Rattle.mv_ways.proofs.provenances.ProvenanceGraph.alike_field.Goals as goal

pub returns-then-is_field_of-clause-origins : goal.returns-then-is_field_of-clause-origins
returns-then-is_field_of-clause-origins c =
    let provenances = c.args.self.now.provenances in
    let place = c.loop-place.place in
    let provenance = c.index-provenances-place.result in
    let long = ap length c.provenances-provenances.ensures.value in
    let test = c.loop-place-test.true in
    let inside : place < length provenances = omega (arith, long, test) in
    let at : slice_get provenances place ≡ Some provenance = provenance_at provenances place provenance inside (c.index-provenances-place.is ∙ ap (λ ws. get_or ws place provenance) c.provenances-provenances.ensures.value) in
    origins_at-provenance provenances c.provenances-provenances.ensures.earlier place provenance at ∙ ap (origins_of (all_origins provenances)) (c.is_field_of.ensures c.if-is_field_of.true)
