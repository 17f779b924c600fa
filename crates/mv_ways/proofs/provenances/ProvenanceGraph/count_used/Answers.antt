use Rattle.mv_edges.proofs.Common.{◌<◌, List, ap, arith, get_or, length, refl, Slot}
use Rattle.mv_ways.specs.declared.provenances.Reference.{Reference}
use Rattle.mv_ways.proofs.ProvenanceGraph.Kept.{used_more, provenance_below}
use Rattle.mv_ways.proofs.provenances.ProvenanceGraph.count_used.Goals as goal
use Rattle.mv_ways.proofs.provenances.ProvenanceGraph.count_used.Goals.{then-provenance-count, else-provenance-count}

pub overflow_add-count : goal.overflow_add-count
overflow_add-count c =
    let rs = c.args.self.now.references in
    let same = c.references-r-items.ensures.value in
    let long = ap length same in
    let test = c.loop-r-test.true in
    let inside : c.loop-r.r-index < length rs = omega (arith, long, test) in
    let at = ap (λ (xs : List Reference). (get_or xs c.loop-r.r-index (record { node = Slot 0; provenance = 0 })).provenance) same in
    let below = provenance_below (length c.args.self.now.provenances) rs c.loop-r.r-index (record { node = Slot 0; provenance = 0 }) inside c.references-r-items.ensures.below in
    let few = c.references-r-items.ensures.few in
    let is = c.provenance-count.ensures in
    omega (arith, at, below, few, is)

pub loop-r-preserved : goal.loop-r-preserved
loop-r-preserved c =
    let d : Reference = record { node = Slot 0; provenance = 0 } in
    let rs = c.args.self.now.references in
    let same = c.references-r-items.ensures.value in
    let long = ap length same in
    let test = c.loop-r-test.true in
    let inside : c.loop-r.r-index < length rs = omega (arith, long, test) in
    let at = ap (λ (xs : List Reference). (get_or xs c.loop-r.r-index d).provenance) same in
    let below = provenance_below (length c.args.self.now.provenances) rs c.loop-r.r-index d inside c.references-r-items.ensures.below in
    let is = c.provenance.ensures in
    elim c.if-provenance-count.branch [
      | then-provenance-count w ↦
          let again = w.provenance-count.ensures in
          let more = w.if-provenance-count.true in
          let new = w.count-is in
          record {
            most = omega (arith, at, below, is, again, new);
            below = used_more c.loop-r.count c.if-provenance-count.count rs c.loop-r.r-index d (get_or rs c.loop-r.r-index d) inside refl (omega (arith, again, is, more, new)) (omega (arith, at, again, new)) c.loop-r.invariant.below;
          }
      | else-provenance-count w ↦
          let less = w.if-provenance-count.false in
          let new = w.count-is in
          let most = c.loop-r.invariant.most in
          record {
            most = omega (arith, most, new);
            below = used_more c.loop-r.count c.if-provenance-count.count rs c.loop-r.r-index d (get_or rs c.loop-r.r-index d) inside refl (omega (arith, new)) (omega (arith, at, is, less, new)) c.loop-r.invariant.below;
          }
    ]
