use Rattle.std.proofs.Common.{ℕ, List, Err, ap, subst}
use Rattle.std.proofs.lemmas.Result.{err_from_is_err_and}
use Rattle.mv_acquires.specs.Acquires.{AcquiresHold}
use Rattle.mv_certificate_rules.specs.CertificateText.{IsCertificateText}
use Rattle.moveledger.specs.Checking.{in_certificate, offer_of}
use Rattle.mv_move_types.proofs.Refusals.{refused-weaker}
use Rattle.mv_ledger_state.proofs.Phases.{refused_stated, refused_check}
use Rattle.moveledger.proofs.Verdicts.{refused-in_module, refused-in_digits}
use Rattle.moveledger.proofs.checking.check_digits.Goals as goal

pub returns-in_err-typed-clause-refused : goal.returns-in_err-typed-clause-refused
returns-in_err-typed-clause-refused c =
    let p = err_from_is_err_and c.from_residual.result c.from_residual.ensures.1 in
    rw (p.1, p.2) (refused-in_module c.args.module.now c.args.digits.now c.in_err-typed.field-0.0 c.in_err-typed.ensures.refused)

pub returns-in_err-bytes-clause-refused : goal.returns-in_err-bytes-clause-refused
returns-in_err-bytes-clause-refused c =
    let p = err_from_is_err_and c.from_residual-in_err-bytes.result c.from_residual-in_err-bytes.ensures.1 in
    rw (p.1, p.2) (refused-in_digits c.args.module.now c.args.digits.now c.in_ok-typed.typed c.in_err-bytes.field-0.0
    c.in_ok-typed.ensures.spelled c.in_ok-typed.ensures.sound c.in_err-bytes.ensures.errors (λ is. c.in_err-bytes.ensures.none (ap Err is)))

pub returns-in_err-stated-clause-refused : goal.returns-in_err-stated-clause-refused
returns-in_err-stated-clause-refused c =
    let p = err_from_is_err_and c.from_residual-in_err-stated.result c.from_residual-in_err-stated.ensures.1 in
    let offer = offer_of c.args.module.now c.in_ok-bytes.bytes.items in
    let same = c.deref.ensures.value in
    rw (p.1, p.2) (refused-weaker _ _ c.in_err-stated.field-0.0 (λ p out. in_certificate c.in_ok-bytes.bytes.items p c.in_ok-bytes.ensures.ok out)
    (refused_stated c.modules_are_read_by_text.ensures offer c.are_bytes.ensures c.in_ok-typed.typed c.in_err-stated.field-0.0 c.in_ok-typed.ensures.spelled c.in_ok-typed.ensures.sound c.in_err-stated.ensures.errors
    (rw (← same) (λ is. c.in_err-stated.ensures.none (ap Err is)))))

pub returns-in_err-verified-clause-refused : goal.returns-in_err-verified-clause-refused
returns-in_err-verified-clause-refused c =
    let p = err_from_is_err_and c.from_residual-in_err-verified.result c.from_residual-in_err-verified.ensures.1 in
    let offer = offer_of c.args.module.now c.in_ok-bytes.bytes.items in
    rw (p.1, p.2) (refused-weaker _ _ c.in_err-verified.field-0.0 (λ p out. in_certificate c.in_ok-bytes.bytes.items p c.in_ok-bytes.ensures.ok out)
    (refused_check c.modules_are_read_by_text.ensures offer c.are_bytes.ensures c.in_ok-typed.typed c.in_ok-stated.stated c.in_err-verified.field-0.0 c.in_ok-typed.ensures.spelled c.in_ok-typed.ensures.sound
    (subst (λ (l : List ℕ). IsCertificateText c.in_ok-typed.typed l c.in_ok-stated.stated) c.deref.ensures.value c.in_ok-stated.ensures.ok) c.in_err-verified.ensures.refused))

pub returns-clause-ok : goal.returns-clause-ok
returns-clause-ok c = record {
  certificate = c.in_ok-bytes.bytes.items;
  tables = c.in_ok-typed.typed;
  stated = c.in_ok-stated.stated;
  spelled = c.in_ok-bytes.ensures.ok;
  passes = record {
    text = c.in_ok-typed.ensures.spelled;
    sound = c.in_ok-typed.ensures.sound;
    certificate = subst (λ (l : List ℕ). IsCertificateText c.in_ok-typed.typed l c.in_ok-stated.stated) c.deref.ensures.value c.in_ok-stated.ensures.ok;
    holds = c.in_ok-verified.ensures.holds;
    acquires = subst AcquiresHold c.in_ok-verified.ensures.ok c.module-acquires.ensures.acquires;
  };
}
