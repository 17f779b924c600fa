use Rattle.mv_interface.proofs.Common.{and_parts, leb-true, length, list_all, nat_le, sym}
use Rattle.mv_module_text.specs.Fits.{signature_fits, token_fits}
use Rattle.mv_bound_rules.proofs.Entries.{all_at}
use Rattle.mv_interface.proofs.interface.tokens_at.Goals as goal

pub returns-in-Some-clause-few : goal.returns-in-Some-clause-few
returns-in-Some-clause-few c =
    let m = c.args.m.now in
    let tokens = c.in-Some.tokens.now in
    let fits = all_at (signature_fits m.version) m.signatures _ tokens c.signature.ensures.fits (sym c.in-Some.ensures.value) in
    leb-true (length tokens) 64 (and_parts (nat_le (length tokens) 64) (list_all (token_fits m.version) tokens) fits).0
