use Rattle.mv_type_states.proofs.Common.{reverse, err_from_is_err_and}
use Rattle.mv_type_states.proofs.Stacks.{none-after, two-none, two_exchanged}
use Rattle.mv_type_states.proofs.stack.exchange_two.Goals as goal

pub returns-in_err-pop-clause-types : goal.returns-in_err-pop-clause-types
returns-in_err-pop-clause-types c =
    let p = err_from_is_err_and c.from_residual.result c.from_residual.ensures.1 in
    rw (p.1, p.2) (none-after _ _ _ (two-none c.args.wanted c.args.given (reverse c.args.stack.now.items)) c.in_err-pop.ensures.types)

pub returns-in_err-pop-clause-phase : goal.returns-in_err-pop-clause-phase
returns-in_err-pop-clause-phase c =
    let p = err_from_is_err_and c.from_residual.result c.from_residual.ensures.1 in
    rw (p.1, p.2) c.in_err-pop.ensures.phase

pub returns-clause-types : goal.returns-clause-types
returns-clause-types c =
    two_exchanged c.exchange.result c.args.wanted c.args.given (reverse c.args.stack.now.items) (reverse c.pop.new.stack.items) (reverse c.exchange.new.stack.items) c.in_ok-pop.ensures.types
    c.exchange.ensures.types

pub returns-clause-phase : goal.returns-clause-phase
returns-clause-phase c = c.exchange.ensures.phase
