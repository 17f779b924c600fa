use Rattle.std.proofs.Common.{ap}
use Rattle.moveledger_c.specs.Questions.{format_in}
use Rattle.moveledger_c.proofs.Asked.{format_in-none}
use Rattle.moveledger_c.proofs.shows.format_of.Goals as goal

pub returns-then-form-eq-TEXT : goal.returns-then-form-eq-TEXT
returns-then-form-eq-TEXT c = ap format_in c.if-form-eq-TEXT.true

pub returns-then-form-eq-JSON : goal.returns-then-form-eq-JSON
returns-then-form-eq-JSON c = ap format_in c.if-form-eq-JSON.true

pub returns : goal.returns
returns c = format_in-none c.args.form c.if-form-eq-TEXT.false c.if-form-eq-JSON.false
