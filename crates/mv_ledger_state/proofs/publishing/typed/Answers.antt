use Rattle.mv_ledger_state.proofs.Common.{◌∙◌, ◌≡◌, Err, List, Some, ap, subst, sym, ℕ, IfErr-weaker, IfOk-weaker, err_from_is_err_and, Module, module_of, FailsAt, FailsTypes, IsRefusedBy, Spells}
use Rattle.mv_ledger_state.proofs.Phases.{refused_text, refused_bounds, refused_types}
use Rattle.mv_ledger_state.proofs.publishing.typed.Goals as goal

-- what a text spells
spelled : (text : List ℕ) (m n : Module) → Spells text m → n ≡ m → Spells text n
spelled text m n spells same = subst (λ (k : Module). Spells text k) (sym same) spells

pub returns-in_err-module-clause-refused : goal.returns-in_err-module-clause-refused
returns-in_err-module-clause-refused c = λ certificate.
    let p = err_from_is_err_and c.from_residual.result c.from_residual.ensures.1 in
    rw (p.1, p.2) (refused_text (record { text = c.args.text.now; certificate = certificate }) c.in_err-module.field-0.0 c.in_err-module.ensures.errors
    (λ is. c.in_err-module.ensures.none (ap Err is)))

pub returns-in_err-bounded-clause-refused : goal.returns-in_err-bounded-clause-refused
returns-in_err-bounded-clause-refused c = λ certificate.
    let p = err_from_is_err_and c.from_residual-in_err-bounded.result c.from_residual-in_err-bounded.ensures.1 in
    rw (p.1, p.2) (refused_bounds c.modules_are_read_by_text.ensures (record { text = c.args.text.now; certificate = certificate }) c.are_bytes.ensures c.in_ok-module.module c.in_err-bounded.field-0.0
    c.in_ok-module.ensures.text c.in_err-bounded.ensures.refused)

pub returns-clause-read : goal.returns-clause-read
returns-clause-read c =
    IfOk-weaker c.check-2.result _ (λ (m : Module). module_of c.args.text.now ≡ Some m) (λ m same. c.in_ok-module.ensures.ok ∙ ap Some (sym (same ∙ c.in_ok-bounded.ensures.ok))) c.check-2.ensures.ok

pub returns-clause-text : goal.returns-clause-text
returns-clause-text c =
    IfOk-weaker c.check-2.result _ (λ (m : Module). Spells c.args.text.now m)
    (λ m same. spelled c.args.text.now c.in_ok-module.module m c.in_ok-module.ensures.text (same ∙ c.in_ok-bounded.ensures.ok)) c.check-2.ensures.ok

pub returns-clause-refused : goal.returns-clause-refused
returns-clause-refused c = λ certificate.
    IfErr-weaker c.check-2.result (IsRefusedBy (FailsTypes c.in_ok-bounded.bounded)) (IsRefusedBy (FailsAt (record { text = c.args.text.now; certificate = certificate })))
    (λ e. refused_types c.modules_are_read_by_text.ensures (record { text = c.args.text.now; certificate = certificate }) c.are_bytes.ensures c.in_ok-bounded.bounded e
    (spelled c.args.text.now c.in_ok-module.module c.in_ok-bounded.bounded c.in_ok-module.ensures.text c.in_ok-bounded.ensures.ok)
    c.module-defined.ensures.bounds c.module-defined.ensures.definitions) c.check-2.ensures.refused
