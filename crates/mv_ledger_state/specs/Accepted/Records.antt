-- What a record leaves that a sound ledger answers.
use Rattle.std.specs.Prelude.{◌≡◌, ℕ, List}
use Rattle.mv_move_types.specs.Published.{PublishedModule}
use Rattle.mv_machine.specs.Lines.{Reply, Published}
use Rattle.mv_machine.specs.Ledger.{LedgerState, Request, Publish, with_bundle, Answers}
use Rattle.mv_ledger_state.specs.RecordText.{Asks}
use Rattle.mv_ledger_state.specs.Publishing.{Spells, IsPublished}
use Rattle.mv_ledger_state.specs.Counting.Headline.{IsBalanced, RunsWell}
use Rattle.mv_ledger_state.specs.Accepted.SoundLedger.{IsSoundLedger}

-- a bundle that is published passed every phase
abbrev pub IsVetted : LedgerState → Request → Reply → LedgerState → Type 0
IsVetted old (Publish sender offers) (Published n) new = (bundle : List PublishedModule) × IsPublished old sender offers bundle × (new ≡ with_bundle old bundle)
IsVetted old _ _ new = Unit {0}

-- whatever a record asks, its run ends as it should, and the ledger that its answer leaves is balanced and sound
abbrev pub EachRecordIsWell : Type 0
EachRecordIsWell = (kind : ℕ) (payload : List ℕ) (old new : LedgerState) (request : Request) (reply : Reply)
    → IsSoundLedger old → Asks kind payload request → Answers Spells old request reply new → IsVetted old request reply new
    → RunsWell old request × IsBalanced new × IsSoundLedger new
