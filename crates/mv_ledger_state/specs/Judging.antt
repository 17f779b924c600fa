-- What is said of a publish record's bundle by a ledger's modules alone.
use Rattle.std.specs.Prelude.{◌≡◌, ◌≤◌, ◌⊎◌, ℕ, List, Option, length}
use Rattle.mv_move_types.specs.Limits.{most_modules}
use Rattle.mv_move_types.specs.declared.refusal.Refusal.{Refusal}
use Rattle.mv_move_types.specs.Published.{PublishedModule, with_modules}
use Rattle.mv_move_types.specs.Refusals.{IsRefusedBy}
use Rattle.mv_machine.specs.Ledger.{LedgerState}
use Rattle.mv_link_rules.specs.Link.{MayJoin, tables_in}
use Rattle.mv_ledger_state.specs.Exact.{IsAccepted, IsRefused}

-- more modules may join those that are there
abbrev pub MayFollow : Option ℕ → List PublishedModule → List PublishedModule → Type 0
MayFollow sender old new = MayJoin sender (tables_in old) (tables_in new) (tables_in (with_modules old new))

-- they may not, or there is no room for them, or memory ran out
abbrev pub IsKeptOut : Option ℕ → List PublishedModule → List PublishedModule → Refusal → Type 0
IsKeptOut sender old new = IsRefusedBy (λ phase.
    ((phase ≡ 13) × ¬ MayFollow sender old new) ⊎ ((phase ≡ 14) × MayFollow sender old new × ¬ (length (with_modules old new) ≤ most_modules)))

-- whatever else a ledger with these modules holds, the payload's bundle of so many is accepted, and its modules join them
abbrev pub IsAcceptedBy : ℕ → List PublishedModule → List ℕ → List PublishedModule → Type 0
IsAcceptedBy count old payload new =
    (s : LedgerState) → s.published ≡ old
    → (bundle : List PublishedModule) × (IsAccepted s payload bundle × (count ≡ length bundle) × (new ≡ with_modules old bundle))

-- whatever else it holds, the phase that is answered refuses the payload, or memory ran out
abbrev pub IsRefusedOver : List PublishedModule → List ℕ → Refusal → Type 0
IsRefusedOver old payload e = (s : LedgerState) → s.published ≡ old → IsRefusedBy (IsRefused s payload) e
