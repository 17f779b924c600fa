use Rattle.mv_edges.proofs.Common.{◌≡◌, ◌++◌, ◌∷◌, ◌∙◌, ◌<◌, [], arith, ap, sym, drop, get_or, length, subst, sorted, option_map_or}
use Rattle.std.specs.Prelude.{IfSome}
use Rattle.mv_ways.specs.Behind.{a_tail, begun_edges, edges_with}
use Rattle.mv_ways.specs.Derived.{all_derived}
use Rattle.mv_ways.specs.Going.{original}
use Rattle.mv_ways.specs.Provenances.{origins_at}
use Rattle.mv_ways.proofs.ProvenanceGraph.Derived.{derived_all, derived_on, original_below, some_smaller, some_weaker, tail_before, tail_path}
use Rattle.mv_ways.proofs.ProvenanceGraph.Noted.{goes_below_at, provenance_at}
use Rattle.mv_ways.proofs.provenances.ProvenanceGraph.tell_derived.Goals as goal

pub returns-then-not-tell_begun : goal.returns-then-not-tell_begun
returns-then-not-tell_begun g c = λ fs.
    let it = c.args.self.now in
    let place = c.in-Some.place in
    let provenance = c.index-provenances-place.result in
    let derivation = c.loop-next.invariant.1.1 in
    let before = rw c.in-Some.is at derivation.inside in
    let same = rw c.in-Some.is at derivation.same in
    let at = c.index-provenances-place.is ∙ ap (λ ws. get_or ws place provenance) c.provenances.ensures.value in
    let t = a_tail (record { path = drop c.loop-next.at c.loop-next.room; is_open = c.args.is_open }) in
    let begun = begun_edges it.sources c.args.to provenance (t ∷ []) in
    let rest = option_map_or (λ k. edges_with it.sources c.args.to (origins_at (all_derived it.provenances) k) (tail_before provenance t ∷ [])) (original provenance) [] in
    let all = edges_with it.sources c.args.to (origins_at (all_derived it.provenances) c.args.end) (a_tail (record { path = []; is_open = c.args.is_open }) ∷ []) in
    let on = derived_on it.sources c.args.to it.provenances place provenance t derivation.told all c.provenances.ensures.earlier (provenance_at it.provenances place provenance before at) same in
    let stop = rw c.from_on.ensures at (rw c.if-not-tell_begun.true at c.tell_begun.ensures) in
    g.met.S.Sink.alike c.args.sink.now c.tell_begun.new.sink (derivation.told ++ (begun ++ (rest ++ fs))) (all ++ fs) (derived_all derivation.told begun rest all fs on)
    (g.met.S.Sink.joined c.args.sink.now c.loop-next.sink c.tell_begun.new.sink derivation.told (begun ++ (rest ++ fs)) derivation.is_told (stop (rest ++ fs)))

pub loop-next-smaller : goal.loop-next-smaller
loop-next-smaller g c =
    let provenances = c.args.self.now.provenances in
    let place = c.in-Some.place in
    let provenance = c.index-provenances-place.result in
    let before = rw c.in-Some.is at c.loop-next.invariant.1.1.inside in
    let at = c.index-provenances-place.is ∙ ap (λ ws. get_or ws place provenance) c.provenances.ensures.value in
    let below = original_below place provenance (goes_below_at provenances place provenance c.provenances.ensures.earlier before at) in
    rw c.derived_from-next.ensures (rw c.in-Some.is (some_smaller (original provenance) place below))

pub loop-next-preserved : goal.loop-next-preserved
loop-next-preserved g c =
    let it = c.args.self.now in
    let place = c.in-Some.place in
    let provenance = c.index-provenances-place.result in
    let inv = c.loop-next.invariant in
    let derivation = inv.1.1 in
    let before = rw c.in-Some.is at derivation.inside in
    let room = rw c.in-Some.is at derivation.room in
    let same = rw c.in-Some.is at derivation.same in
    let at = c.index-provenances-place.is ∙ ap (λ ws. get_or ws place provenance) c.provenances.ensures.value in
    let below = original_below place provenance (goes_below_at it.provenances place provenance c.provenances.ensures.earlier before at) in
    let path = drop c.loop-next.at c.loop-next.room in
    let t = a_tail (record { path = path; is_open = c.args.is_open }) in
    let begun = begun_edges it.sources c.args.to provenance (t ∷ []) in
    let all = edges_with it.sources c.args.to (origins_at (all_derived it.provenances) c.args.end) (a_tail (record { path = []; is_open = c.args.is_open }) ∷ []) in
    let on = derived_on it.sources c.args.to it.provenances place provenance t derivation.told all c.provenances.ensures.earlier (provenance_at it.provenances place provenance before at) same in
    let told = rw c.from_on.ensures at (rw c.if-not-tell_begun.false at c.tell_begun.ensures) in
    let put = c.put_before-at.ensures in
    let next = c.derived_from-next.ensures in
    let behind : tail_before provenance t ≡ a_tail (record { path = drop c.put_before-at.result c.put_before-at.new.room; is_open = c.args.is_open }) =
    tail_path provenance path c.args.is_open ∙ ap (λ p. a_tail (record { path = p; is_open = c.args.is_open })) (sym put.path) in
    let low = inv.0 in
    let count = inv.1.0 in
    let more = put.count in
    let within = put.within in
    let one = put.one in (
      omega (arith, low, more, within),
      (
        omega (arith, count, more),
        record {
          told = derivation.told ++ begun;
          is_told = g.met.S.Sink.joined c.args.sink.now c.loop-next.sink c.tell_begun.new.sink derivation.told begun derivation.is_told told;
          same = ap (λ n. sorted ((derivation.told ++ begun) ++ option_map_or (λ k. edges_with it.sources c.args.to (origins_at (all_derived it.provenances) k) (a_tail (record { path = drop c.put_before-at.result c.put_before-at.new.room; is_open = c.args.is_open }) ∷ [])) n [])) next
              ∙ ap (λ u. sorted ((derivation.told ++ begun) ++ option_map_or (λ k. edges_with it.sources c.args.to (origins_at (all_derived it.provenances) k) (u ∷ [])) (original provenance) [])) (sym behind)
              ∙ on;
          inside = subst (λ n. IfSome n (λ k. k < length it.provenances)) (sym next) (some_weaker (original provenance) (λ k. k < place) (λ k. k < length it.provenances) (λ k h. omega (arith, h, before)) below);
          room = subst (λ n. IfSome n (λ k. k < c.put_before-at.result)) (sym next) (some_weaker (original provenance) (λ k. k < place) (λ k. k < c.put_before-at.result) (λ k h. omega (arith, h, room, within, one)) below);
        },
      ),
    )
