use Rattle.mv_bounds.proofs.Common.{ℕ, ◌↔◌, ◌∙◌, ◌≡◌, Global, List, Vec, ap, map, true, IfOk-weaker, IsAcyclic, Holds}
use Rattle.mv_bounds.proofs.ContainmentLemmas.{finite_from_acyclic}
use Rattle.mv_bounds.proofs.containment.are_finite.Goals as goal

pub returns : goal.returns
returns c =
    let items : List (Vec ℕ Global) → List (List ℕ) = map (λ (s : Vec ℕ Global). s.items) in
    let graph = items c.deref.result.now in
    let is = ap items c.deref.ensures.value ∙ c.in_ok-graph.ensures in
    IfOk-weaker c.is_acyclic.result (λ b. (b ≡ true) ↔ IsAcyclic graph) (λ b. (b ≡ true) ↔ ((i : ℕ) → Holds c.args.m.now i i → ⊥))
    (λ b. finite_from_acyclic c.args.m.now b graph is) c.is_acyclic.ensures
