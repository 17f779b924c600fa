use Rattle.std.proofs.Common.{◌++◌, ◌≡◌, length}
use Rattle.moveledger_c.specs.Questions.{names_text}
use Rattle.moveledger_c.proofs.questions.names_of.Given as goal

abbrev pub invariant-each : goal.invariant-each
invariant-each l = l.text.items ++ names_text l.modules ≡ names_text l.fn.ledger.published

abbrev pub decreases-each : goal.decreases-each
decreases-each l = length l.modules
