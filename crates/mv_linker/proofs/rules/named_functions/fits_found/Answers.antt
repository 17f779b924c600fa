use Rattle.mv_linker.proofs.Common.{◌∙◌, ◌≡◌, Found, IsFound, Module, ap, function_fits, slice_get, subst}
use Rattle.mv_linker.proofs.rules.named_functions.fits_found.Goals as goal

pub returns-in-New : goal.returns-in-New
returns-in-New c modules n home d of is are at =
    let here = subst (λ (f : Found). IsFound modules n f) c.in-New.is is in
    subst (λ (x : Module). c.fits_at.result ≡ function_fits c.args.m.now c.args.handle x d) here.0 (c.fits_at.ensures d (ap (λ (x : Module). slice_get x.functions c.args.index) here.0 ∙ at))

pub returns-in-Kept : goal.returns-in-Kept
returns-in-Kept c modules n home d of is are at = c.fits_kept.ensures modules n home d of (subst (λ (f : Found). IsFound modules n f) c.in-Kept.is is) are at
