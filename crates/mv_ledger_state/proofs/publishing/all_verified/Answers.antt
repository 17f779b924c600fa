use Rattle.mv_ledger_state.proofs.Common.{[], ◌++◌, ◌∷◌, ◌≡◌, ◌≤◌, arith, length, common_steps, err_from_is_err_and}
use Rattle.mv_ledger_state.proofs.Bundles.Verifying.{verifying-none, verifying-more, verifying-fails, verified-all}
use Rattle.mv_ledger_state.proofs.publishing.all_verified.Goals as goal

pub each-init : goal.each-init
each-init c = verifying-none c.args.offers.now c.in_ok-all.all.items c.in_ok-all.ensures.items

pub returns-in_err-verified-clause-refused : goal.returns-in_err-verified-clause-refused
returns-in_err-verified-clause-refused c =
    let p = err_from_is_err_and c.from_residual-in_err-verified.result c.from_residual-in_err-verified.ensures.1 in
    rw (p.1, p.2) (verifying-fails c.args.offers.now c.each.offer-index c.each.all.items _ c.in_err-verified.field-0.0 c.each.invariant c.each-test.true c.in_err-verified.ensures.refused)

pub each-preserved : goal.each-preserved
each-preserved c =
    let pushed : c.push.new.self.items ≡ c.each.all.items ++ c.in_ok-verified.field-0 ∷ [] = grind (arith, common_steps) in
    verifying-more c.args.offers.now c.each.offer-index c.each.all.items c.push.new.self.items _ c.in_ok-verified.field-0 c.each.invariant c.each-test.true pushed
    c.in_ok-verified.ensures.text c.in_ok-verified.ensures.certificate c.in_ok-verified.ensures.passes c.in_ok-verified.ensures.texts

pub returns-clause-passed : goal.returns-clause-passed
returns-clause-passed c =
    let past : length c.args.offers.now ≤ c.each.offer-index = omega (arith, c.each-test.false) in
    verified-all c.args.offers.now c.each.offer-index c.each.all.items c.each.invariant past

pub returns-clause-texts : goal.returns-clause-texts
returns-clause-texts c = c.each.invariant.texts
