use Rattle.std.proofs.Common.{◌≡◌, ℕ, List, Option, IfSome, take, string_bytes, sym, subst}
use Rattle.moveledger.specs.Authoring.{Prints}
use Rattle.moveledger.specs.declared.ending.End.{End}
use Rattle.moveledger.proofs.Beginnings.{proves-some}
use Rattle.moveledger.proofs.authoring.prove_module.Goals as goal

pub returns : goal.returns
returns g c =
    let m : Option (List ℕ) = g.R.Read.remaining c.args.«module» in
    let held : Option (List ℕ) = g.W.Write.contents c.args.writer.now in
    let holds : Option (List ℕ) = g.W.Write.contents c.printed.new.writer in
    let bytes : List ℕ = c.deref.result.now in
    let first : IfSome m (λ xs. bytes ≡ take 65537 xs) = subst (λ (l : List ℕ). IfSome m (λ xs. l ≡ take 65537 xs)) (sym c.deref.ensures.value) c.in-Ok.ensures.bytes in
    let printed = subst (λ (e : End). Prints string_bytes c.proved_line.result e held holds c.printed.result) c.end_of_proof-end.ensures c.printed.ensures in
    proves-some string_bytes held holds c.printed.result c.args.steps m bytes c.proved_text-proved.result c.proved_line.result first c.proved_text-proved.ensures.proved c.proved_text-proved.ensures.refused c.proved_line.ensures printed
