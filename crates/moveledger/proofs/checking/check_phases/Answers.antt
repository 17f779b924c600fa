use Rattle.std.proofs.Common.{ℕ, List, length, ap, subst, arith, ⊎_elim, IfErr}
use Rattle.std.proofs.lemmas.Result.{IfErr-weaker}
use Rattle.moveledger.specs.Checking.{AreShort, FailsWith, failing, too_long}
use Rattle.mv_move_types.specs.Refusals.{IsRefusedBy}
use Rattle.mv_move_types.proofs.Refusals.{refused-weaker}
use Rattle.moveledger.proofs.checking.check_phases.Goals as goal

pub returns-then-module-gt-MOST_MODULE_BYTES-clause-refused :
    goal.returns-then-module-gt-MOST_MODULE_BYTES-clause-refused
returns-then-module-gt-MOST_MODULE_BYTES-clause-refused c = too_long (λ short.
    let few = ap length c.before_line_end-digits.ensures in
    let bytes = short.0 in
    let digits = short.1 in
    ⊎_elim (λ long. omega (arith, long, bytes)) (λ long. omega (arith, long.1, digits, few)) c.then-module-gt-MOST_MODULE_BYTES.either)

pub returns-clause-refused : goal.returns-clause-refused
returns-clause-refused c =
    let same = c.before_line_end-digits.ensures in
    let short : AreShort c.args.module.now c.before_line_end-digits.result.now = (c.if-module-gt-MOST_MODULE_BYTES.false, c.if-digits-gt-MOST_DIGITS.false) in
    let within = subst (AreShort c.args.module.now) same short in
    IfErr-weaker c.check_digits.result _ _ (λ e. refused-weaker _ _ e (λ p out. failing p within out))
    (subst (λ (l : List ℕ). IfErr c.check_digits.result (IsRefusedBy (FailsWith c.args.module.now l))) same c.check_digits.ensures.refused)
