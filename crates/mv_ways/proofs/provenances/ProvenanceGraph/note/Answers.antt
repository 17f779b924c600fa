use Rattle.mv_edges.proofs.Common.{◌<◌, ◌∙◌, ap, arith, get_or, length}
use Rattle.std.proofs.Math.ListN.{length-set}
use Rattle.mv_ways.proofs.ProvenanceGraph.Noted.{goes_below_at, noted_more}
use Rattle.mv_ways.proofs.provenances.ProvenanceGraph.note.Goals as goal

pub provenance_passing-found-requires-clause-below : goal.provenance_passing-found-requires-clause-below
provenance_passing-found-requires-clause-below g c =
    let provenances = c.args.self.now.provenances in
    let provenance = c.index-provenances-place.result in
    let long = ap length c.provenances-place-end.ensures.value in
    goes_below_at provenances c.loop-place.place provenance c.provenances.ensures.earlier (omega (arith, long)) (c.index-provenances-place.is ∙ ap (λ ws. get_or ws c.loop-place.place provenance) c.provenances.ensures.value)

pub loop-place-preserved : goal.loop-place-preserved
loop-place-preserved g c =
    let provenances = c.args.self.now.provenances in
    let provenance = c.index-provenances-place.result in
    let long = ap length c.provenances-place-end.ensures.value in
    let inside : c.loop-place.place < length provenances = omega (arith, long) in
    let room : c.loop-place.place < length c.loop-place.noted = omega arith in
    record {
      count = length-set c.loop-place.noted c.loop-place.place c.provenance_passing-found.result ∙ c.loop-place.invariant.count;
      noted = noted_more c.args.self.now (g.P.NodeSet.test c.args.from.now) c.args.position c.loop-place.noted c.loop-place.place provenance c.provenance_passing-found.result c.provenances.ensures.earlier
          inside room (c.index-provenances-place.is ∙ ap (λ ws. get_or ws c.loop-place.place provenance) c.provenances.ensures.value) c.loop-place.invariant.noted c.provenance_passing-found.ensures;
    }
