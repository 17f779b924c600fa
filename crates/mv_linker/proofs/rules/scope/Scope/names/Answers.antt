use Rattle.mv_linker.proofs.Common.{ℕ, ◌∙◌, List, ap, map, subst, sym, AreHandlePlaces, err_from_is_err_and, modules_in}
use Rattle.mv_move_types.proofs.Refusals.{refused-wider}
use Rattle.mv_linker.specs.declared.rules.named_modules.Target.{Target}
use Rattle.mv_linker.proofs.Joining.JoinedTargets.{places_of_targets}
use Rattle.mv_linker.proofs.Joining.Assembling.{names-parts}
use Rattle.mv_linker.proofs.rules.scope.Scope.names.Goals as goal

pub returns-in_err-targets-clause-refused : goal.returns-in_err-targets-clause-refused
returns-in_err-targets-clause-refused c =
    let p = err_from_is_err_and c.from_residual.result c.from_residual.ensures.1 in
    rw (p.1, p.2) (refused-wider 13 _ _ _ (λ h. (names-parts (modules_in c.args.self.now) c.args.m.now h).0) c.in_err-targets.ensures.refused)

pub returns-in_err-structs-clause-refused : goal.returns-in_err-structs-clause-refused
returns-in_err-structs-clause-refused c =
    let p = err_from_is_err_and c.from_residual-in_err-structs.result c.from_residual-in_err-structs.ensures.1 in
    rw (p.1, p.2) (refused-wider 13 _ _ _ (λ h. (names-parts (modules_in c.args.self.now) c.args.m.now h).1) c.in_err-structs.ensures.refused)

pub returns-in_err-functions-clause-refused : goal.returns-in_err-functions-clause-refused
returns-in_err-functions-clause-refused c =
    let p = err_from_is_err_and c.from_residual-in_err-functions.result c.from_residual-in_err-functions.ensures.1 in
    rw (p.1, p.2) (refused-wider 13 _ _ _ (λ h. (names-parts (modules_in c.args.self.now) c.args.m.now h).2) c.in_err-functions.ensures.refused)

pub returns-clause-names : goal.returns-clause-names
returns-clause-names c =
    let modules = modules_in c.args.self.now in
    record {
      places =
          subst (λ (l : List ℕ). AreHandlePlaces modules c.args.m.now l) (sym (c.in_ok-modules.ensures ∙ ap (map (λ (t : Target). t.place)) c.deref.ensures.value))
          (places_of_targets modules c.args.m.now c.in_ok-targets.targets.items c.in_ok-targets.ensures.ok);
      structs = c.in_ok-structs.ensures.ok;
      functions = c.in_ok-functions.ensures.ok;
    }
