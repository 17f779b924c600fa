use Rattle.std.proofs.Common.{◌++◌, ◌≡◌, length}
use Rattle.moveledger_c.specs.Changes.{changed_text}
use Rattle.moveledger_c.proofs.changes.changed_of.Given as goal

abbrev pub invariant-each : goal.invariant-each
invariant-each l = l.text.items ++ changed_text l.modules ≡ changed_text l.initial.modules

abbrev pub decreases-each : goal.decreases-each
decreases-each l = length l.modules
