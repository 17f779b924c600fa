use Rattle.mv_edges.proofs.Common.{◌≡◌, ◌&&◌, ◌∙◌, ◌<◌, ◌∷◌, [], Some, ap, arith, drop, edges_leq, get_or, length, option_map_or, slice_get, slice_get-get_or, subst, sym, true, false}
use Rattle.std.specs.Prelude.{IfSome}
use Rattle.mv_ways.specs.Behind.{begun_edges}
use Rattle.mv_ways.specs.Covered.{open_tail}
use Rattle.mv_ways.specs.Derived.{is_passed, path_before}
use Rattle.mv_ways.specs.Going.{original}
use Rattle.mv_ways.proofs.ProvenanceGraph.Covered.{chain_on, is_under}
use Rattle.mv_ways.proofs.ProvenanceGraph.Derived.{original_below, some_smaller, some_weaker}
use Rattle.mv_ways.proofs.ProvenanceGraph.Noted.{goes_below_at, provenance_at}
use Rattle.mv_ways.proofs.ProvenanceGraph.Under.{some_provenance}
use Rattle.mv_ways.proofs.provenances.ProvenanceGraph.is_chain_passed.Goals as goal

pub returns-then-not-is_provenance_under : goal.returns-then-not-is_provenance_under
returns-then-not-is_provenance_under c =
    let g = c.args.self.now in
    let to = c.args.to in
    let others = c.args.others.now in
    let place = c.in-Some.place in
    let before = rw c.in-Some.is at c.loop-next.invariant.1.1.inside in
    let same : is_under g to others (drop c.loop-next.at c.loop-next.room) place ≡ is_passed g to others c.args.end = rw c.in-Some.is at c.loop-next.invariant.1.1.same in
    let provenance = get_or g.provenances place some_provenance in
    let there : slice_get g.provenances place ≡ Some provenance = slice_get-get_or g.provenances place some_provenance before in
    let path = drop c.loop-next.at c.loop-next.room in
    let rest = option_map_or (is_under g to others (path_before provenance path)) (original provenance) true in
    let own : edges_leq (begun_edges g.sources to provenance (open_tail path ∷ [])) others ≡ false = sym ((rw c.from_on.ensures at c.is_provenance_under.ensures) provenance there) ∙ c.if-not-is_provenance_under.true in
    sym (sym same ∙ chain_on g to others c.requires.earlier place provenance path there ∙ ap (λ b. b && rest) own)

pub loop-next-smaller : goal.loop-next-smaller
loop-next-smaller c =
    let provenances = c.args.self.now.provenances in
    let place = c.in-Some.place in
    let provenance = c.index-provenances-place.result in
    let before = rw c.in-Some.is at c.loop-next.invariant.1.1.inside in
    let at = c.index-provenances-place.is ∙ ap (λ ws. get_or ws place provenance) c.provenances.ensures.value in
    let below = original_below place provenance (goes_below_at provenances place provenance c.provenances.ensures.earlier before at) in
    rw c.derived_from-next.ensures (rw c.in-Some.is (some_smaller (original provenance) place below))

pub loop-next-preserved : goal.loop-next-preserved
loop-next-preserved c =
    let g = c.args.self.now in
    let to = c.args.to in
    let others = c.args.others.now in
    let place = c.in-Some.place in
    let provenance = c.index-provenances-place.result in
    let inv = c.loop-next.invariant in
    let before = rw c.in-Some.is at inv.1.1.inside in
    let room = rw c.in-Some.is at inv.1.1.room in
    let same : is_under g to others (drop c.loop-next.at c.loop-next.room) place ≡ is_passed g to others c.args.end = rw c.in-Some.is at inv.1.1.same in
    let at = c.index-provenances-place.is ∙ ap (λ ws. get_or ws place provenance) c.provenances.ensures.value in
    let there : slice_get g.provenances place ≡ Some provenance = provenance_at g.provenances place provenance before at in
    let below = original_below place provenance (goes_below_at g.provenances place provenance c.provenances.ensures.earlier before at) in
    let path = drop c.loop-next.at c.loop-next.room in
    let rest = option_map_or (is_under g to others (path_before provenance path)) (original provenance) true in
    let own : edges_leq (begun_edges g.sources to provenance (open_tail path ∷ [])) others ≡ true = sym ((rw c.from_on.ensures at c.is_provenance_under.ensures) provenance there) ∙ c.if-not-is_provenance_under.false in
    let on : rest ≡ is_passed g to others c.args.end = sym (chain_on g to others c.requires.earlier place provenance path there ∙ ap (λ b. b && rest) own) ∙ same in
    let put = c.put_before-at.ensures in
    let next = c.derived_from-next.ensures in
    let low = inv.0 in
    let count = inv.1.0 in
    let more = put.count in
    let within = put.within in
    let one = put.one in (
      omega (arith, low, more, within),
      (
        omega (arith, count, more),
        record {
          same = ap (λ n. option_map_or (is_under g to others (drop c.put_before-at.result c.put_before-at.new.room)) n true) next
              ∙ ap (λ p. option_map_or (is_under g to others p) (original provenance) true) put.path ∙ on;
          inside = subst (λ n. IfSome n (λ k. k < length g.provenances)) (sym next) (some_weaker (original provenance) (λ k. k < place) (λ k. k < length g.provenances) (λ k h. omega (arith, h, before)) below);
          room = subst (λ n. IfSome n (λ k. k < c.put_before-at.result)) (sym next) (some_weaker (original provenance) (λ k. k < place) (λ k. k < c.put_before-at.result) (λ k h. omega (arith, h, room, within, one)) below);
        },
      ),
    )
