use Rattle.mv_interface.proofs.Common.{ℕ, ◌≤◌, List, arith, length, length-map, map, subst, sym}
use Rattle.std.specs.Prelude.{MatchOption}
use Rattle.mv_interface.specs.ByName.{IsByName, names_at}
use Rattle.mv_interface.specs.Outline.{IsFunctionNamed, OutlineView, function_kept}
use Rattle.mv_interface.specs.declared.by_name.ByName.{ByName}
use Rattle.mv_interface.specs.declared.outline.FunctionEntry.{FunctionEntry}
use Rattle.mv_interface.proofs.OutlineOrders.{function-found, function-low}
use Rattle.mv_interface.proofs.outline.Outline.find_function.Goals as goal
use Rattle.mv_interface.proofs.outline.Outline.find_function.Goals.{After-find}

found : (c : After-find) → MatchOption c.find.result ((k : ℕ) → IsFunctionNamed c.args.self.now k c.args.name.now → ⊥) (λ k. IsFunctionNamed c.args.self.now k c.args.name.now)
found c =
    let o = c.self.inside in
    let names = names_at o.identifiers (map (λ (f : FunctionEntry). f.identifier) o.functions.items) in
    subst (λ (v : OutlineView). MatchOption c.find.result ((k : ℕ) → IsFunctionNamed v k c.args.name.now → ⊥) (λ k. IsFunctionNamed v k c.args.name.now)) c.self.view_is
    (function-found o.identifiers o.structs.items o.fields o.functions.items c.args.name.now c.find.result
    (c.find.ensures.found names (subst (λ (l : List ByName). IsByName o.identifiers names l) (sym c.deref.ensures.value) c.self.invariant.3)))

pub returns-clause-found : goal.returns-clause-found
returns-clause-found c = found (goal.at.returns-clause-found c).After-find

pub returns-clause-few : goal.returns-clause-few
returns-clause-few c = function-low c.args.self.now c.args.name.now c.find.result (subst (λ (v : OutlineView). length v.functions ≤ 256) c.self.view_is (omega (arith, c.self.invariant.1, length-map c.self.inside.functions.items (function_kept c.self.inside.identifiers)))) (found (goal.at.returns-clause-few c).After-find)
