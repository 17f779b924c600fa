use Rattle.mv_linker.proofs.Common.{◌&&◌, ◌||◌, ◌∙◌, ap, both_there, false, option_map_or, own_name, module_name, same_module, slice_get, sym}
use Rattle.mv_interface.specs.TypesByDefinition.{are_types}
use Rattle.mv_linker.proofs.Joining.KeptFits.{kept-fits, kept-parameters, kept-results}
use Rattle.mv_linker.proofs.rules.named_functions.fits_kept.Goals as goal

pub returns-in_default : goal.returns-in_default
returns-in_default c modules n home d of is are at =
    absurd (kept-parameters modules c.args.m.now n c.args.structs.now are home c.args.handle c.args.kept.now of is c.args.index d at (sym c.in_default.ensures))

pub returns-in_default-get : goal.returns-in_default-get
returns-in_default-get c modules n home d of is are at =
    absurd (kept-results modules c.args.m.now n c.args.structs.now are home c.args.handle c.args.kept.now of is c.args.index d at (sym c.in_default-get.ensures))

pub returns : goal.returns
returns c modules n home d of is are at =
    let m = c.args.m.now in
    let handle = c.args.handle in
    c.fits_types.ensures
    ∙ ap (λ p. (p || both_there same_module (module_name m handle.module) (own_name m))
    && (option_map_or (λ ts. are_types c.args.structs.now ts c.in-Some.parameters.now) (slice_get m.signatures handle.parameters) false
    && option_map_or (λ ts. are_types c.args.structs.now ts c.in-Some-get.results.now) (slice_get m.signatures handle.results) false)) c.is_public-is_public.ensures
    ∙ kept-fits modules m n c.args.structs.now are home handle c.args.kept.now of is c.args.index d at c.in-Some.parameters.now c.in-Some-get.results.now (sym c.in-Some.ensures) (sym c.in-Some-get.ensures)
