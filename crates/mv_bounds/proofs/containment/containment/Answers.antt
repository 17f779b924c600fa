use Rattle.mv_bounds.proofs.Common.{ℕ, ◌∙◌, ◌≤◌, Global, List, Vec, ap, length, map, subst, take_all, StructDefinition, places_of}
use Rattle.mv_bounds.proofs.ContainmentLemmas.{containment_is}
use Rattle.mv_bounds.proofs.containment.containment.Goals as goal

pub returns : goal.returns
returns c =
    let m = c.args.m.now in
    let places = c.in_ok-places.places.items in
    let ends = subst (λ (xs : List StructDefinition). length xs ≤ c.loop-d.d-index) c.structs-d-items.ensures.value c.loop-d-test.false in
    containment_is m c.requires places c.in_ok-places.ensures (map (λ (v : Vec ℕ Global). v.items) c.loop-d.graph.items)
    (c.loop-d.invariant ∙ ap (map (λ (d : StructDefinition). places_of places d.fields)) (take_all c.loop-d.d-index m.structs ends))
