use Rattle.std.proofs.Common.{ap}
use Rattle.moveledger_c.specs.Calls.{payload_of}
use Rattle.moveledger_c.proofs.Reports.{payload_of-none}
use Rattle.moveledger_c.proofs.ledgers.payload_of.Goals as goal

pub returns-then-form-eq-TEXT : goal.returns-then-form-eq-TEXT
returns-then-form-eq-TEXT c = ap payload_of c.if-form-eq-TEXT.true

pub returns-then-form-eq-JSON : goal.returns-then-form-eq-JSON
returns-then-form-eq-JSON c = ap payload_of c.if-form-eq-JSON.true

pub returns : goal.returns
returns c = payload_of-none c.args.form c.if-form-eq-TEXT.false c.if-form-eq-JSON.false
