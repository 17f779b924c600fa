use Rattle.std.proofs.Common.{arith, rules}
use Rattle.std.proofs.lemmas.List.{take_more_set}
use Rattle.moveledger_program.proofs.FirstBytes.{first-taken}
use Rattle.moveledger_program.proofs.buffered.BufferedRead.read.Goals as goal

pub returns-in-Some-clause-bytes : goal.returns-in-Some-clause-bytes
returns-in-Some-clause-bytes g c =
    let first = c.in-Some.first.now in
    (rw (take_more_set c.args.buf.now 0 first (omega arith)) (first-taken _ _ _ _ first (search rules) c.consume.ensures.bytes), λ none. cc)
