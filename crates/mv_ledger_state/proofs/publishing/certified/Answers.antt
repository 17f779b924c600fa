use Rattle.mv_ledger_state.proofs.Common.{Err, ap, subst, sym, err_from_is_err_and, Module, AcquiresHold, Offer, Certificate, Passes}
use Rattle.mv_certificate_rules.specs.Verified.{IsCertifiedBy}
use Rattle.mv_ledger_state.proofs.Phases.{refused_stated, refused_check}
use Rattle.mv_ledger_state.proofs.publishing.certified.Goals as goal

pub returns-in_err-stated-clause-refused : goal.returns-in_err-stated-clause-refused
returns-in_err-stated-clause-refused c = λ text are spells.
    let p = err_from_is_err_and c.from_residual.result c.from_residual.ensures.1 in
    rw (p.1, p.2)
    (refused_stated c.modules_are_read_by_text.ensures (record { text = text; certificate = c.args.certificate.now }) are c.args.typed c.in_err-stated.field-0.0 spells
    c.module-sound.ensures.sound c.in_err-stated.ensures.errors (λ is. c.in_err-stated.ensures.none (ap Err is)))

pub returns-in_err-module-clause-refused : goal.returns-in_err-module-clause-refused
returns-in_err-module-clause-refused c = λ text are spells.
    let p = err_from_is_err_and c.from_residual-in_err-module.result c.from_residual-in_err-module.ensures.1 in
    rw (p.1, p.2)
    (refused_check c.modules_are_read_by_text.ensures (record { text = text; certificate = c.args.certificate.now }) are c.args.typed c.in_ok-stated.stated c.in_err-module.field-0.0 spells
    c.module-sound.ensures.sound c.in_ok-stated.ensures.ok c.in_err-module.ensures.refused)

pub returns-clause-certified : goal.returns-clause-certified
returns-clause-certified c =
    subst (λ (m : Module). IsCertifiedBy m c.args.certificate.now) (sym c.in_ok-module.ensures.ok) (c.in_ok-stated.stated, (c.in_ok-stated.ensures.ok, c.in_ok-module.ensures.holds))

pub returns-clause-passes : goal.returns-clause-passes
returns-clause-passes c = λ text spells.
    let offer : Offer = record { text = text; certificate = c.args.certificate.now } in
    let same = c.in_ok-module.ensures.ok in
    subst (λ m. (stated : Certificate) × Passes offer m stated) (sym same) (
      c.in_ok-stated.stated,
      record {
        text = spells;
        sound = c.module-sound.ensures.sound;
        certificate = c.in_ok-stated.ensures.ok;
        holds = c.in_ok-module.ensures.holds;
        acquires = subst AcquiresHold same c.module-acquires.ensures.acquires;
      },
    )
