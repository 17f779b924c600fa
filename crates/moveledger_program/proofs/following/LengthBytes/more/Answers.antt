use Rattle.std.proofs.Common.{arith, refl}
use Rattle.moveledger_program.proofs.Passing.{leads-beyond, leads-found, leads-high, leads-refused}
use Rattle.moveledger_program.proofs.following.LengthBytes.more.Goals as goal

pub returns-then-self-ge10 : goal.returns-then-self-ge10
returns-then-self-ge10 c = leads-beyond c.args.self c.args.byte (omega arith)

pub returns-then-byte-ge128 : goal.returns-then-byte-ge128
returns-then-byte-ge128 c = leads-high c.args.self c.args.byte _ (omega arith) refl refl (omega arith)

pub returns-in-Ok : goal.returns-in-Ok
returns-in-Ok c = let found = c.in-Ok.ensures.found in leads-found c.args.self c.args.byte _ _ (omega arith) (omega arith) found.0 found.1

pub returns-in-Err : goal.returns-in-Err
returns-in-Err c = leads-refused c.args.self c.args.byte (omega arith) (omega arith) (c.in-Err.ensures.refused refl)
