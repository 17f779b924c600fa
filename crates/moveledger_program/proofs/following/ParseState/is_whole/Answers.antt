use Rattle.moveledger_program.proofs.Passing.{tells-cut, tells-record}
use Rattle.moveledger_program.proofs.following.ParseState.is_whole.Goals as goal

pub returns-in-Record : goal.returns-in-Record
returns-in-Record c given at = tells-record c.args.self c.in-Record.missing given c.in-Record.is at

pub returns-in-Length : goal.returns-in-Length
returns-in-Length c given at = tells-cut c.args.self given c.in-Length.is at
