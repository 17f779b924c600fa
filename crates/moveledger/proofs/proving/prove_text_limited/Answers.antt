use Rattle.std.proofs.Common.{Err, ap, arith, subst, sym, ◌∙◌}
use Rattle.std.proofs.lemmas.Result.{err_from_is_err_and}
use Rattle.mv_binary_format.proofs.Back.{all-are_bytes}
use Rattle.mv_analyser.specs.Principal.{IsOfLimits}
use Rattle.moveledger.specs.Hexadecimal.{hexadecimal, IsHexadecimal}
use Rattle.moveledger.specs.Proving.{HasNoProof, too_long}
use Rattle.moveledger.proofs.Proved.{alone-no_proof, each-no_proof_within, made-accepted, made-proved, provable-refused, provable-spelled}
use Rattle.moveledger.proofs.proving.prove_text_limited.Goals as goal

pub returns-then-module-gt-MOST_MODULE_BYTES-clause-refused :
    goal.returns-then-module-gt-MOST_MODULE_BYTES-clause-refused
returns-then-module-gt-MOST_MODULE_BYTES-clause-refused c =
    let long = c.if-module-gt-MOST_MODULE_BYTES.true in too_long (λ short. omega (arith, long, short))

pub returns-in-Err-clause-refused : goal.returns-in-Err-clause-refused
returns-in-Err-clause-refused c =
    subst (HasNoProof c.args.module.now) (sym c.unproved.ensures) (alone-no_proof c.args.module.now c.if-module-gt-MOST_MODULE_BYTES.false c.in-Err.e c.in-Err.ensures.refused)

pub returns-in-Err-clause-principal : goal.returns-in-Err-clause-principal
returns-in-Err-clause-principal c = λ provable.
    subst IsOfLimits (sym c.unproved.ensures) (provable-refused c.args.module.now provable c.in-Err.e c.in-Err.ensures.refused)

pub returns-in_err-certificate-clause-refused : goal.returns-in_err-certificate-clause-refused
returns-in_err-certificate-clause-refused c =
    let p = err_from_is_err_and c.from_residual.result c.from_residual.ensures.1 in
    rw (p.1, p.2)
    (each-no_proof_within c.args.module.now c.if-module-gt-MOST_MODULE_BYTES.false c.in-Ok.typed c.in-Ok.ensures.spelled c.in-Ok.ensures.sound c.args.steps c.in_err-certificate.field-0.0 c.in_err-certificate.ensures.refused
    (λ e. c.in_err-certificate.ensures.limited (ap (λ z. Err z) e)))

pub returns-in_err-certificate-clause-principal : goal.returns-in_err-certificate-clause-principal
returns-in_err-certificate-clause-principal c = λ provable.
    let bytes = c.args.module.now in
    let are = all-are_bytes bytes (λ i. omega (arith, c.type_inv.module i)) in
    let p = err_from_is_err_and c.from_residual.result c.from_residual.ensures.1 in
    rw (p.1, p.2)
    (c.in_err-certificate.ensures.principal (provable-spelled c.modules_are_read_by_text.ensures bytes are c.in-Ok.typed c.in-Ok.ensures.spelled provable))

pub returns-clause-proved : goal.returns-clause-proved
returns-clause-proved c =
    let bytes_are = c.deref.ensures.value ∙ c.in_ok-bytes.ensures.text in
    made-proved c.args.module.now _ c.if-module-gt-MOST_MODULE_BYTES.false c.in-Ok.typed c.in-Ok.ensures.spelled c.in-Ok.ensures.sound
    c.in_ok-certificate.certificate c.in_ok-certificate.ensures.shape c.in_ok-certificate.ensures.passes (c.in_ok-digits_of.ensures.written ∙ ap hexadecimal bytes_are)

pub returns-clause-accepted : goal.returns-clause-accepted
returns-clause-accepted c =
    let bytes_are = c.deref.ensures.value ∙ c.in_ok-bytes.ensures.text in
    let written = c.in_ok-digits_of.ensures.written ∙ ap hexadecimal bytes_are in
    made-accepted c.args.module.now _ c.if-module-gt-MOST_MODULE_BYTES.false c.in-Ok.typed c.in-Ok.ensures.spelled c.in-Ok.ensures.sound
    c.in_ok-certificate.certificate c.in_ok-certificate.ensures.shape c.in_ok-certificate.ensures.passes
    (subst (IsHexadecimal _) bytes_are c.in_ok-digits_of.ensures.spelled) written
