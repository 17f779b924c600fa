-- The ledger to begin with.
use Rattle.std.specs.Prelude.{[]}
use Rattle.mv_machine.specs.Ledger.{LedgerState}

-- nothing is published or stored, and no run was had
abbrev pub empty_ledger : LedgerState
empty_ledger = record { published = []; storage = []; tallies = []; runs = 0 }
