use Rattle.std.proofs.Common.{◌≡◌, ℕ, List, Option, IfSome, subst, sym}
use Rattle.moveledger.specs.Saved.{IsRead}
use Rattle.moveledger.specs.declared.inputs.Bytes.{Bytes}
use Rattle.moveledger.proofs.Unloaded.{not_loaded-some, refused-some}
use Rattle.moveledger.proofs.saved.loaded.Goals as goal

pub returns-in-Fails-clause-refused : goal.returns-in-Fails-clause-refused
returns-in-Fails-clause-refused g c =
    let given : Option (List ℕ) = g.R.Read.remaining c.args.text in
    refused-some given c.in-Fails.number (g.W.Write.contents c.args.writer.now) (g.W.Write.contents c.refused.new.writer) c.refused.result
    (subst (λ (b : Bytes). IsRead given b) c.in-Fails.is c.in_ok-bytes.ensures.read) c.refused.ensures

pub returns-clause-refused : goal.returns-clause-refused
returns-clause-refused g c =
    let given : Option (List ℕ) = g.R.Read.remaining c.args.text in
    let bytes : List ℕ = c.deref.result.now in
    let all : IfSome given (λ xs. c.in-Whole.bytes.items ≡ xs) = subst (λ (b : Bytes). IsRead given b) c.in-Whole.is c.in_ok-bytes.ensures.read in
    let read : IfSome given (λ xs. bytes ≡ xs) = subst (λ (l : List ℕ). IfSome given (λ xs. l ≡ xs)) (sym c.deref.ensures.value) all in
    not_loaded-some given bytes c.in-Err.error (g.W.Write.contents c.args.writer.now) (g.W.Write.contents c.not_loaded.new.writer) c.not_loaded.result
    read c.in-Err.ensures.refused c.not_loaded.ensures.refused
