use Rattle.std.proofs.Common.{ℕ, List, Option}
use Rattle.std.specs.Io.KnownBytes.{Consumes}
use Rattle.moveledger.proofs.inputs.all_or_refusal.Given as goal

abbrev pub invariant-each : goal.invariant-each
invariant-each g l = (given : Option (List ℕ)) → Consumes given (g.R.Read.remaining l.fn.reader) l.fn.bytes.items → Consumes given (g.R.Read.remaining l.reader) l.bytes.items
