use Rattle.mv_linker.proofs.Common.{◌≡◌, ap, arith, length, subst, true, err_from_is_err_and, modules_are_there, modules_in}
use Rattle.mv_move_types.proofs.Refusals.{refused-wider}
use Rattle.mv_linker.proofs.Joining.Resolving.{no-targets, more-targets, modules_there_at}
use Rattle.mv_linker.proofs.rules.scope.Scope.targets.Goals as goal

pub loop-h-init : goal.loop-h-init
loop-h-init c = no-targets _ _ _ c.in_ok-targets.ensures.items

pub returns-in_err-target-clause-refused : goal.returns-in_err-target-clause-refused
returns-in_err-target-clause-refused c =
    let p = err_from_is_err_and c.from_residual-in_err-target.result c.from_residual-in_err-target.ensures.1 in
    rw (p.1, p.2) (refused-wider 13 _ _ _ (modules_there_at (modules_in c.args.self.now) c.args.m.now (length c.args.m.now.module_handles) c.loop-h.h (omega (arith, ap length c.module_handles-h-end.ensures))) c.in_err-target.ensures.refused)

pub loop-h-preserved : goal.loop-h-preserved
loop-h-preserved c = more-targets _ _ _ _ _ c.in_ok-target.target c.loop-h.invariant c.in_ok-pushed.ensures.ok c.in_ok-target.ensures.ok

pub returns-clause-ok : goal.returns-clause-ok
returns-clause-ok c = record {
  len = omega (arith, c.loop-h.invariant.len, ap length c.module_handles-h-end.ensures);
  each = c.loop-h.invariant.each;
}

pub returns-clause-there : goal.returns-clause-there
returns-clause-there c =
    let all : c.loop-h.h ≡ length c.args.m.now.module_handles = omega (arith, ap length c.module_handles-h-end.ensures) in
    subst (λ n. modules_are_there (modules_in c.args.self.now) c.args.m.now n ≡ true) all c.loop-h.invariant.there
