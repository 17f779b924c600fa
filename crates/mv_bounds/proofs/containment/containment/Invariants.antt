use Rattle.mv_bounds.proofs.Common.{ℕ, ◌≡◌, Global, Vec, map, take, StructDefinition, places_of}
use Rattle.mv_bounds.proofs.containment.containment.Given as goal

abbrev pub invariant-loop-d : goal.invariant-loop-d
invariant-loop-d l = map (λ (v : Vec ℕ Global). v.items) l.graph.items ≡ map (λ (d : StructDefinition). places_of l.places.items d.fields) (take l.d-index l.m.structs)
