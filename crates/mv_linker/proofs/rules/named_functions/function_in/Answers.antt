use Rattle.mv_linker.proofs.Common.{◌∙◌, sym}
use Rattle.mv_linker.proofs.Joining.NamedThere.{function-matched, function-missing, function-nameless, is-function}
use Rattle.mv_linker.proofs.rules.named_functions.function_in.Goals as goal

pub returns-in_err-name-clause-found : goal.returns-in_err-name-clause-found
returns-in_err-name-clause-found c modules n home of is are = rw c.from_residual.ensures (function-nameless c.args.m.now c.args.handle n (sym c.in_err-name.ensures))

pub returns-in_err-index-clause-found : goal.returns-in_err-index-clause-found
returns-in_err-index-clause-found c modules n home of is are =
    rw c.from_residual-in_err-index.ensures (function-missing c.args.m.now c.args.handle n of.defined c.outline.result.now (c.outline.ensures modules n is) c.in_ok-name.name.now (sym c.in_ok-name.ensures) c.in_err-index.ensures.found)

pub returns-then-fits_found-clause-found : goal.returns-then-fits_found-clause-found
returns-then-fits_found-clause-found c modules n home of is are = (
  function-matched c.args.m.now c.args.handle n of.defined c.outline.result.now (c.outline.ensures modules n is) c.in_ok-name.name.now c.in_ok-index.index c.fits_found.result (sym c.in_ok-name.ensures)
      c.in_ok-index.ensures.found (λ d at. c.fits_found.ensures modules n home d of is are at) ∙ c.if-fits_found.true,
  is-function c.args.m.now c.args.handle n of.defined c.outline.result.now (c.outline.ensures modules n is) c.in_ok-name.name.now c.in_ok-index.index (sym c.in_ok-name.ensures)
      c.in_ok-index.ensures.found,
)

pub returns-else-fits_found-clause-found : goal.returns-else-fits_found-clause-found
returns-else-fits_found-clause-found c modules n home of is are =
    function-matched c.args.m.now c.args.handle n of.defined c.outline.result.now (c.outline.ensures modules n is) c.in_ok-name.name.now c.in_ok-index.index c.fits_found.result (sym c.in_ok-name.ensures)
    c.in_ok-index.ensures.found (λ d at. c.fits_found.ensures modules n home d of is are at) ∙ c.if-fits_found.false
