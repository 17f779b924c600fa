-- Where the answering of an input stands between two records.
use Rattle.std.specs.Prelude.{◌≡◌, ℕ, ◌+◌, List, length, Option}
use Rattle.std.specs.Io.KnownBytes.{Appends, Consumes}
use Rattle.mv_ledger_state.specs.View.{LedgerView}
use Rattle.moveledger.specs.Records.{Record, AreWhole}
use Rattle.moveledger.specs.Headline.{Reports}

-- So many records were answered before an input, and n are now: of the input whole ones were read, and no byte behind them, and all
-- their lines written.
pub record Progress (before : ℕ) (given gives held holds : Option (List ℕ)) (old new : LedgerView) (n : ℕ) : Type 0 where
  pub whole : List ℕ
  pub records : List Record
  pub text : List ℕ
  pub taken : Consumes given gives whole
  pub read : AreWhole whole records
  pub count : n ≡ before + length records
  pub written : Appends held holds text
  pub report : Reports (before + 1) old records text new
