use Rattle.mv_lines.proofs.Shows.Names.{plain-value, plain-named, plain-address, plain-decimal}
use Rattle.mv_ledger.proofs.laws.no_text_is_escaped.Goals as goal

pub returns : goal.returns
returns c = record { address = plain-address; number = plain-decimal; value = plain-value; name = plain-named }
