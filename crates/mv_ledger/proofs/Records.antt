-- What is asked by a record is in its range, and each record that is answered is answered well.
use Rattle.mv_ledger.proofs.Common.{[], ◌∷◌, ◌≡◌, List, arith, length, true, ℕ, first_so, second_so, list_all, ◌&&◌, nat_le, IsReadByText, address_fits, Answers, LedgerState, Publish, Request, Run}
use Rattle.mv_ledger.proofs.Common.{RunRequest, Reply, leaf_fits, Leaf, Value, Ranged, leaf_ranges, EachRecordIsWell, IsSoundLedger, AnswersRecord, Spells, Asks, argument_fits, offer_fits}
use Rattle.mv_ledger.proofs.Common.{run_fits}
use Rattle.mv_ledger_state.proofs.Counting.Ended.{answered-well}
use Rattle.mv_ledger_state.proofs.Spelling.{offers_bytes}
use Rattle.mv_ledger_state.proofs.Accepted.Sound.{RunFits, RequestFits, answered_sound}

-- ---- what a record asks

arguments_ranged : (vs : List Value) → list_all argument_fits vs ≡ true → Ranged vs
arguments_ranged [] h = tt
arguments_ranged (Leaf k n ∷ vs) h = (leaf_ranges k n (first_so (leaf_fits k n) (list_all argument_fits vs) h), arguments_ranged vs (second_so (leaf_fits k n) (list_all argument_fits vs) h))
arguments_ranged _ h = absurd cc

run_ranged : (r : RunRequest) → run_fits r ≡ true → RunFits r
run_ranged r h =
    let parts : (address_fits r.sender ≡ true) × (list_all argument_fits r.arguments ≡ true) = grind arith in
    record { sender = parts.0; arguments = arguments_ranged r.arguments parts.1 }

-- what a record asks has its parts in their ranges
pub asked_fits : (kind : ℕ) (payload : List ℕ) (request : Request) → Asks kind payload request → RequestFits request
asked_fits kind payload (Publish sender offers) a =
    offers_bytes offers (second_so (address_fits sender && nat_le 1 (length offers) && nat_le (length offers) 16) (list_all offer_fits offers) a.2)
asked_fits kind payload (Run r) a = run_ranged r a.2
asked_fits _ _ _ _ = tt

-- ---- what is answered

-- a record that is answered over a sound ledger, and leaves one, is answered well
pub answers_record : (kind : ℕ) (payload : List ℕ) (request : Request) (reply : Reply) (old new : LedgerState) → Asks kind payload request → Answers Spells old request reply new → IsSoundLedger new
    → AnswersRecord kind payload reply old new
answers_record kind payload request reply old new asks answers sound = (request, asks, answers, answered-well Spells old new request reply answers, sound)

pub records_well : IsReadByText → EachRecordIsWell
records_well reads kind payload old new request reply sound asks answers vetted =
    let after = answered_sound reads old new request reply sound (asked_fits kind payload request asks) answers vetted in
    (answered-well Spells old new request reply answers, after.balanced, after)
