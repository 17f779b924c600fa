use Rattle.mv_bound_rules.proofs.Common.{ℕ, ◌==◌, ◌∙◌, List, None, Option, ap, unwrap_or-slice_get, slice_get, FunctionDefinition, Module, find_index}
use Rattle.std.specs.Option.{unwrap_or}
use Rattle.mv_bound_rules.proofs.HandleLemmas.{function_at, found-below}
use Rattle.mv_bound_rules.proofs.Bounded.definition.Goals as goal

pub returns-clause-place : goal.returns-clause-place
returns-clause-place c =
    let h = c.args.handle in
    let places = c.self.inside.places.items in
    c.place_at.ensures ∙ ap (λ (xs : List (Option ℕ)). unwrap_or (slice_get xs h) None) c.deref.ensures.value
    ∙ unwrap_or-slice_get places h None ∙ function_at c.self.inside.module c.self.invariant.bounds places c.self.invariant.placed h
    ∙ ap (λ (m : Module). find_index (λ (d : FunctionDefinition). d.handle == h) m.functions) c.self.view_is

pub returns-clause-below : goal.returns-clause-below
returns-clause-below c =
    found-below (λ (d : FunctionDefinition). d.handle == c.args.handle) c.args.self.now.functions c.place_at.result (returns-clause-place c)
