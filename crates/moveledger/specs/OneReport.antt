-- One input and one ledger allow one report.
use Rattle.std.specs.Prelude.{◌≡◌, ℕ, ◌≤◌, List, Option}
use Rattle.mv_ledger_state.specs.View.{LedgerView, state_of}
use Rattle.moveledger.specs.Records.{most_records}
use Rattle.moveledger.specs.Headline.{Headline}

-- Where the headline holds twice of one input, from ledgers that stand for one state of the machine, it is the same number of
-- records, the same records and the same text, and the ledgers after them stand for one state again: the same modules, stored
-- values, tallies and runs. So what the headline says that there is, is one thing, whatever the readers and the writers are. Of
-- the words that the stored values are kept as it says nothing more. The numbers are those that the engine answers.
abbrev pub OneReport : Type 0
OneReport =
    (given also held holds before after : Option (List ℕ)) (old new start end : LedgerView) (n m : ℕ) → n ≤ most_records → m ≤ most_records
    → (h : Headline given held holds old new n) (k : Headline also before after start end m)
    → h.input ≡ k.input → state_of old ≡ state_of start
    → (n ≡ m) × (h.records ≡ k.records) × (h.text ≡ k.text) × (state_of new ≡ state_of end)
