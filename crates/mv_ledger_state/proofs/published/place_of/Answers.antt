use Rattle.mv_ledger_state.proofs.Common.{◌∙◌, ap, option_and_then, module_place, tables_in}
use Rattle.mv_ledger_state.proofs.published.place_of.Goals as goal

pub returns-in_err-address : goal.returns-in_err-address
returns-in_err-address c = rw c.from_residual.ensures (ap (option_and_then (module_place (tables_in c.args.store.now))) c.in_err-address.ensures)

pub returns : goal.returns
returns c = c.find.ensures ∙ ap (option_and_then (module_place (tables_in c.args.store.now))) c.in_ok-address.ensures
