use Rattle.mv_edges.proofs.Common.{◌≡◌, ◌∙◌, ◌<◌, [], ap, arith, eqb-true, get_or, length, subst, sym}
use Rattle.std.specs.Prelude.{IfSome}
use Rattle.std.proofs.lemmas.List.{nil_from_length}
use Rattle.mv_ways.specs.Going.{given, original}
use Rattle.mv_ways.proofs.ProvenanceGraph.Derived.{original_below, some_smaller, some_weaker}
use Rattle.mv_ways.proofs.ProvenanceGraph.Leading.{ReturnedBehind, returned_behind}
use Rattle.mv_ways.proofs.ProvenanceGraph.Noted.{goes_below_at, provenance_at}
use Rattle.mv_ways.proofs.provenances.ProvenanceGraph.is_derived_from_result.Goals as goal

pub loop-next-smaller : goal.loop-next-smaller
loop-next-smaller c =
    let provenances = c.args.self.now.provenances in
    let place = c.in-Some.place in
    let provenance = c.index-provenances-place.result in
    let before = rw c.in-Some.is at c.loop-next.invariant.inside in
    let at = c.index-provenances-place.is ∙ ap (λ ws. get_or ws place provenance) c.provenances.ensures.value in
    let below = original_below place provenance (goes_below_at provenances place provenance c.provenances.ensures.earlier before at) in
    rw c.derived_from-next.ensures (rw c.in-Some.is (some_smaller (original provenance) place below))

pub loop-next-preserved : goal.loop-next-preserved
loop-next-preserved c =
    let provenances = c.args.self.now.provenances in
    let place = c.in-Some.place in
    let provenance = c.index-provenances-place.result in
    let before = rw c.in-Some.is at c.loop-next.invariant.inside in
    let behind = rw c.in-Some.is at c.loop-next.invariant.behind in
    let at = c.index-provenances-place.is ∙ ap (λ ws. get_or ws place provenance) c.provenances.ensures.value in
    let below = original_below place provenance (goes_below_at provenances place provenance c.provenances.ensures.earlier before at) in
    let none : given provenance ≡ [] = sym c.given.ensures ∙ nil_from_length c.given.result.now (eqb-true (length c.given.result.now) 0 (sym c.is_empty.ensures ∙ c.if-not-is_empty.false)) in
    record {
      inside = subst (λ n. IfSome n (λ k. k < length provenances)) (sym c.derived_from-next.ensures) (some_weaker (original provenance) (λ k. k < place) (λ k. k < length provenances) (λ k h. omega (arith, h, before)) below);
      behind = λ k r. subst (λ n. ReturnedBehind provenances n k) (sym c.derived_from-next.ensures) (returned_behind provenances place provenance (provenance_at provenances place provenance before at) none k (behind k r));
    }

pub returns : goal.returns
returns c = λ k given. absurd ((rw c.in_default.is at c.loop-next.invariant.behind) k given)
