use Rattle.std.proofs.Common.{◌≡◌, ◌⊎◌, ◌∙◌, sym, subst}
use Rattle.mv_move_types.specs.declared.refusal.Refusal.{Refusal}
use Rattle.mv_move_types.specs.declared.refusal.Refusal.TheVariants.{Phase, Memory}
use Rattle.moveledger.proofs.Digits.{hexadecimal-decoded, refused-hexadecimal, refusals}
use Rattle.moveledger.proofs.checking.bytes_of.Goals as goal

pub returns-in-Ok-clause-ok : goal.returns-in-Ok-clause-ok
returns-in-Ok-clause-ok c = hexadecimal-decoded c.args.digits.now c.in-Ok.bytes.items c.in-Ok.ensures.ok

pub returns-in-Err-clause-none : goal.returns-in-Err-clause-none
returns-in-Err-clause-none c = λ is.
    let phase : c.refusal_of.result ≡ Phase 9 = cc in
    refused-hexadecimal c.args.digits.now c.in-Err.e c.in-Err.ensures.err (sym c.refusal_of.ensures ∙ phase)

pub returns-in-Err-clause-errors : goal.returns-in-Err-clause-errors
returns-in-Err-clause-errors c =
    subst (λ (e : Refusal). (e ≡ Phase 9) ⊎ (e ≡ Memory)) (sym c.refusal_of.ensures) (refusals c.in-Err.e)
