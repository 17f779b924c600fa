use Rattle.mv_edges.proofs.Common.{[], ◌++◌, ◌<◌, ◌∙◌, ◌≤◌, List, Edge, ap, append-nil, arith, get_or, length, map, refl, take_all}
use Rattle.std.proofs.lemmas.List.{drop_all, length-map}
use Rattle.mv_ways.specs.Provenances.{all_origins, edge_lists, extended_into, reference_edges}
use Rattle.mv_ways.proofs.InPlace.{in_place}
use Rattle.mv_ways.proofs.ProvenanceGraph.Extending.{length_in_place, lists_done}
use Rattle.mv_ways.proofs.provenances.ProvenanceGraph.extend_each.Goals as goal

pub loop-place-preserved : goal.loop-place-preserved
loop-place-preserved c =
    let g = c.args.self.now in
    let h : List Edge → List Edge = map (extended_into c.args.position c.args.n) in
    let xs : List (List Edge) = edge_lists g in
    let ys : List (List Edge) = edge_lists c.loop-place.self in
    let long = length-map g.references (reference_edges g.sources (all_origins g.provenances)) in
    let read = ap length c.references-place-end.ensures.value in
    let test = c.loop-place-test.true in
    let inside : c.loop-place.place < length xs = omega (arith, long, read, test) in
    let within : c.loop-place.place ≤ length xs = omega (arith, inside) in
    c.in_ok-extend_at.ensures
    ∙ in_place h xs ys c.loop-place.place [] (h (get_or ys c.loop-place.place [])) inside (length_in_place h xs ys c.loop-place.place within c.loop-place.invariant) c.loop-place.invariant refl

pub returns : goal.returns
returns c =
    let g = c.args.self.now in
    let h : List Edge → List Edge = map (extended_into c.args.position c.args.n) in
    let xs : List (List Edge) = edge_lists g in
    let long = length-map g.references (reference_edges g.sources (all_origins g.provenances)) in
    let read = ap length c.references-place-end.ensures.value in
    let test = c.loop-place-test.false in
    let done : length xs ≤ c.loop-place.place = omega (arith, long, read, test) in
    lists_done c.args.position c.args.n g c.loop-place.self
    (c.loop-place.invariant ∙ (λ k. map h (take_all c.loop-place.place xs done k) ++ drop_all c.loop-place.place xs done k) ∙ append-nil (map h xs))
