use Rattle.std.proofs.Common.{◌≡◌, ℕ, List, Option, IfSome, take, string_bytes, sym, subst}
use Rattle.moveledger.specs.Authoring.{Prints}
use Rattle.moveledger.specs.declared.ending.End.{End}
use Rattle.moveledger.proofs.Beginnings.{checks-some}
use Rattle.moveledger.proofs.authoring.check_module.Goals as goal

pub returns : goal.returns
returns g c =
    let m : Option (List ℕ) = g.R.Read.remaining c.args.«module» in
    let t : Option (List ℕ) = g.S.Read.remaining c.args.certificate in
    let held : Option (List ℕ) = g.W.Write.contents c.args.writer.now in
    let holds : Option (List ℕ) = g.W.Write.contents c.printed.new.writer in
    let bytes : List ℕ = c.deref.result.now in
    let text : List ℕ = c.deref-2.result.now in
    let first : IfSome m (λ xs. bytes ≡ take 65537 xs) = subst (λ (l : List ℕ). IfSome m (λ xs. l ≡ take 65537 xs)) (sym c.deref.ensures.value) c.in-Ok.ensures.bytes in
    let second : IfSome t (λ xs. text ≡ take 2097154 xs) = subst (λ (l : List ℕ). IfSome t (λ xs. l ≡ take 2097154 xs)) (sym c.deref-2.ensures.value) c.in-Ok-first_bytes.ensures.bytes in
    let printed = subst (λ (e : End). Prints string_bytes c.checked_line.result e held holds c.printed.result) c.end_of_check-end.ensures c.printed.ensures in
    checks-some string_bytes held holds c.printed.result m t bytes text c.check_text-checked.result c.checked_line.result first second c.check_text-checked.ensures.ok c.check_text-checked.ensures.refused c.checked_line.ensures printed
