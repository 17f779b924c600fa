use Rattle.std.proofs.Common.{◌≡◌, ℕ, List, length, true, arith}
use Rattle.std.proofs.lemmas.Grind.{common_steps}
use Rattle.moveledger.proofs.Marks.{unmarked-fails}
use Rattle.moveledger.proofs.inputs.ledger_bytes.Goals as goal

pub returns-then-not-is_mark-clause-read : goal.returns-then-not-is_mark-clause-read
returns-then-not-is_mark-clause-read g c =
    let front : List ℕ = c.filled.new.buffer in
    let sized : length front ≡ 4 = grind (arith, common_steps) in
    unmarked-fails c.in-Ok.n front (g.R.Read.remaining c.args.reader) (g.R.Read.remaining c.filled.new.reader) sized
    c.in-Ok.ensures.within c.in-Ok.ensures.taken c.in-Ok.ensures.end
    (λ m. let is : c.is_mark.result ≡ true = c.is_mark.ensures.1 m in let other = c.if-not-is_mark.true in cc)
