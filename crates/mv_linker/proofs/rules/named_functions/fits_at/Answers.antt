use Rattle.mv_linker.proofs.Common.{◌∙◌, ◌≡◌, FunctionDefinition, Some, function_fits, same_Some, slice_get, subst, sym, none-some}
use Rattle.mv_interface.proofs.HandleNames.{not-at}
use Rattle.mv_bound_rules.proofs.Found.{got-at}
use Rattle.mv_linker.proofs.rules.named_functions.fits_at.Goals as goal

pub returns-in-Some : goal.returns-in-Some
returns-in-Some c d at =
    let n = c.args.n.now in
    let here : slice_get n.functions c.args.index ≡ Some c.in-Some.d.now = got-at n.functions c.functions.result.now c.args.index c.in-Some.d c.functions.ensures.value c.in-Some.ensures.lookup in
    subst (λ (x : FunctionDefinition). c.fits.result ≡ function_fits c.args.m.now c.args.handle n x) (same_Some c.in-Some.d.now d (sym here ∙ at)) c.fits.ensures

pub returns-in-None : goal.returns-in-None
returns-in-None c d at = absurd (none-some d (sym (not-at c.args.n.now.functions c.functions.result.now c.args.index c.functions.ensures.value c.in-None.ensures.lookup) ∙ at))
