-- Ledgers over which no run meets a fault.
use Rattle.std.specs.Prelude.{◌≡◌, map}
use Rattle.mv_machine.specs.Ledger.{LedgerState, modules_of, scarce_structs}
use Rattle.mv_link_rules.specs.Link.{IsStore}
use Rattle.mv_soundness.specs.Typing.StateTyped.{StorageTyped}
use Rattle.mv_ledger_state.specs.Counting.Kept.{IsAscending}
use Rattle.mv_ledger_state.specs.Counting.Headline.{IsBalanced}

-- The modules passed every phase and link; what is stored is of its keys' types, in the order of the keys; and each struct with
-- neither copy nor drop has its tally, in order, which is balanced.
pub record IsSoundLedger (s : LedgerState) : Type 0 where
  pub store : IsStore s.published
  pub typed : StorageTyped (modules_of s) s.storage
  pub ascending : IsAscending s.storage
  pub tallied : map (λ t. t.struct) s.tallies ≡ scarce_structs (modules_of s)
  pub balanced : IsBalanced s
