use Rattle.mv_type_states.proofs.Common.{◌≡◌, Some, refl, reverse, MatchOption-at_some, err_from_is_err_and, FunctionDefinition, result_tokens}
use Rattle.mv_type_states.proofs.ReturnLemmas.{of_return-results}
use Rattle.mv_type_states.proofs.Stacks.{none-after, alone-none, alone-left, full_stack}
use Rattle.mv_type_states.proofs.scope.Scope.ret.Goals as goal

pub returns-in_err-pop_all-clause-types : goal.returns-in_err-pop_all-clause-types
returns-in_err-pop_all-clause-types c =
    let m = c.args.self.now.module.now in
    let d = c.args.self.now.function.now in
    let known = MatchOption-at_some _ (λ (x : FunctionDefinition). result_tokens m x ≡ Some c.results.result.now) d c.requires.at c.results.ensures in
    let p = err_from_is_err_and c.from_residual.result c.from_residual.ensures.1 in
    rw (p.1, p.2, of_return-results m d c.results.result.now (reverse c.args.stack.now.items) known)
    (none-after _ _ _ (alone-none c.results.result.now (reverse c.args.stack.now.items)) c.in_err-pop_all.ensures.types)

pub returns-else-is_empty-clause-types : goal.returns-else-is_empty-clause-types
returns-else-is_empty-clause-types c =
    let m = c.args.self.now.module.now in
    let d = c.args.self.now.function.now in
    let known = MatchOption-at_some _ (λ (x : FunctionDefinition). result_tokens m x ≡ Some c.results.result.now) d c.requires.at c.results.ensures in
    rw (of_return-results m d c.results.result.now (reverse c.args.stack.now.items) known)
    (refl, alone-left c.results.result.now (reverse c.args.stack.now.items) c.pop_all.new.stack.items c.in_ok-pop_all.ensures.types (full_stack c.pop_all.new.stack c.is_empty.result c.is_empty.ensures c.if-is_empty.false))
