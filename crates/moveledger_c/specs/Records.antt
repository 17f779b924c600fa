-- What is told of a record that isn't answered.
--   IsAsked kind payload asked   the sender of a publish or a run record, and the budget of a run; or the payload is that of neither
--   IsTold asked ..              the same in numbers; zeros where nothing is asked
--   IsReadAs bytes status ..     the record at the front of bytes, by the status of the call
use Rattle.std.specs.Prelude.{◌≡◌, ℕ, ℤ, List, take, Option, Some, None, ◌⊎◌}
use Rattle.mv_machine.specs.Ledger.{Offer, RunRequest, Publish, Run}
use Rattle.mv_ledger_state.specs.RecordText.{IsShaped, IsShapeless}
use Rattle.moveledger.specs.Records.{IsText, NoWhole}
use Rattle.moveledger_c.specs.Statuses.{done, memory, absent}

-- a bundle that this sender publishes, or a run that it asks for, with its budget; or the payload is that of neither
abbrev pub IsAsked : ℕ → List ℕ → Option (ℕ × ℕ) → Type 0
IsAsked kind payload None = (kind ≡ 1 → IsShapeless 1 payload) × (kind ≡ 2 → IsShapeless 2 payload)
IsAsked kind payload (Some a) =
    ((kind ≡ 1) × (offers : List Offer) × IsShaped 1 payload (Publish a.0 offers) × (a.1 ≡ 0))
    ⊎ ((kind ≡ 2) × (run : RunRequest) × IsShaped 2 payload (Run run) × (run.sender ≡ a.0) × (run.budget ≡ a.1))

-- that in numbers
abbrev pub IsTold : Option (ℕ × ℕ) → (shaped sender budget : ℕ) → Type 0
IsTold None shaped sender budget = (shaped ≡ 0) × (sender ≡ 0) × (budget ≡ 0)
IsTold (Some a) shaped sender budget = (shaped ≡ 1) × (sender ≡ a.0) × (budget ≡ a.1)

-- the record that the bytes begin with is told, of which so many are its own; or no whole one stands there; or memory ran out
abbrev pub IsReadAs : List ℕ → ℤ → (size kind shaped sender budget : ℕ) → Type 0
IsReadAs bytes status size kind shaped sender budget =
    ((status ≡ done) × (payload : List ℕ) × (asked : Option (ℕ × ℕ)) × IsText (take size bytes) kind payload
    × IsAsked kind payload asked × IsTold asked shaped sender budget)
    ⊎ (((status ≡ absent) × NoWhole bytes × (size ≡ 0) × (kind ≡ 0) × IsTold None shaped sender budget)
    ⊎ ((status ≡ memory) × (size ≡ 0) × (kind ≡ 0) × IsTold None shaped sender budget))
