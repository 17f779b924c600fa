use Rattle.mv_type_states.proofs.Common.{◌-◌, ◌∙◌, arith, refl, sym, vec_len}
use Rattle.mv_type_states.proofs.Stacks.{exchanged}
use Rattle.mv_type_states.proofs.stack.exchange.Goals as goal

pub returns-in-Some-clause-types : goal.returns-in-Some-clause-types
returns-in-Some-clause-types c =
    let stack = c.args.stack.now in
    let size = stack.ok.0 in
    let some = c.in-Some.ensures.variant.0 refl in
    exchanged stack.items (vec_len stack - 1) c.in-Some.found.now c.args.wanted c.args.given (omega arith) c.in-Some.ensures.value (sym c.is_type.ensures ∙ c.if-is_type.true)
