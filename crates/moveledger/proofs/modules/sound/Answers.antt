use Rattle.std.proofs.Common.{Err, sym, ap, subst}
use Rattle.std.proofs.lemmas.Result.{err_from_is_err_and}
use Rattle.mv_ledger_state.specs.Publishing.{Spells}
use Rattle.moveledger.specs.Checking.{offer_of}
use Rattle.mv_ledger_state.proofs.Phases.{refused_text, refused_bounds, refused_types}
use Rattle.moveledger.proofs.modules.sound.Goals as goal

pub returns-in_err-module-clause-refused : goal.returns-in_err-module-clause-refused
returns-in_err-module-clause-refused c = λ certificate.
    let p = err_from_is_err_and c.from_residual.result c.from_residual.ensures.1 in
    rw (p.1, p.2) (refused_text (offer_of c.args.bytes.now certificate) c.in_err-module.field-0.0 c.in_err-module.ensures.errors (λ is. c.in_err-module.ensures.none (ap Err is)))

pub returns-in_err-bounded-clause-refused : goal.returns-in_err-bounded-clause-refused
returns-in_err-bounded-clause-refused c = λ certificate.
    let p = err_from_is_err_and c.from_residual-in_err-bounded.result c.from_residual-in_err-bounded.ensures.1 in
    rw (p.1, p.2) (refused_bounds c.modules_are_read_by_text.ensures (offer_of c.args.bytes.now certificate) c.are_bytes.ensures c.in_ok-module.module c.in_err-bounded.field-0.0 c.in_ok-module.ensures.text c.in_err-bounded.ensures.refused)

pub returns-in_err-typed-clause-refused : goal.returns-in_err-typed-clause-refused
returns-in_err-typed-clause-refused c = λ certificate.
    let p = err_from_is_err_and c.from_residual-in_err-typed.result c.from_residual-in_err-typed.ensures.1 in
    let spelled = subst (Spells c.args.bytes.now) (sym c.in_ok-bounded.ensures.ok) c.in_ok-module.ensures.text in
    rw (p.1, p.2) (refused_types c.modules_are_read_by_text.ensures (offer_of c.args.bytes.now certificate) c.are_bytes.ensures c.in_ok-bounded.bounded c.in_err-typed.field-0.0 spelled
    c.module-defined.ensures.bounds c.module-defined.ensures.definitions c.in_err-typed.ensures.refused)
