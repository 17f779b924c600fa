use Rattle.std.proofs.Common.{◌∙◌, sym}
use Rattle.moveledger.proofs.Unloaded.{by-number, no_number}
use Rattle.moveledger.proofs.saved.not_loaded.Goals as goal

pub returns-in-Some : goal.returns-in-Some
returns-in-Some g c = record {
  refused = λ bytes h. c.refused.ensures bytes (by-number bytes c.args.error c.in-Some.number (sym c.number.ensures ∙ c.in-Some.is) h);
  memory = λ e. absurd (no_number c.args.error c.in-Some.number (sym c.number.ensures ∙ c.in-Some.is) e);
}
