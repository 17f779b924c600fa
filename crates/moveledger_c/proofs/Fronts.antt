-- What is told of the record at the front of bytes.
use Rattle.std.proofs.Common.{◌≡◌, ◌≢◌, ℕ, ◌<◌, ◌^◌, List, Option, None, Some, inl, inr, refl, ap, arith, sym, ◌∙◌}
use Rattle.std.specs.Int.{w128, to_be_bytes}
use Rattle.mv_move_types.specs.Numbers.{big_endian}
use Rattle.mv_machine.specs.Ledger.{Offer, RunRequest, Publish, Run}
use Rattle.mv_ledger_state.specs.RecordText.{IsShaped, IsShapeless}
use Rattle.moveledger_c.specs.Records.{IsAsked, IsTold}
use Rattle.moveledger_c.proofs.Asked.{address-back}

-- who asks, by the kind of the record

pub asked-bundle : (payload : List ℕ) (sender : ℕ) (offers : List Offer) → IsShaped 1 payload (Publish sender offers) → IsAsked 1 payload (Some (sender, 0))
asked-bundle payload sender offers is = inl (refl, offers, is, refl)

pub asked-run : (payload : List ℕ) (run : RunRequest) → IsShaped 2 payload (Run run) → IsAsked 2 payload (Some (run.sender, run.budget))
asked-run payload run is = inr (refl, run, is, refl, refl)

pub no-bundle : (payload : List ℕ) → IsShapeless 1 payload → IsAsked 1 payload None
no-bundle payload none = (λ _. none, λ is. absurd (omega (arith, is)))

pub no-run : (payload : List ℕ) → IsShapeless 2 payload → IsAsked 2 payload None
no-run payload none = (λ is. absurd (omega (arith, is)), λ _. none)

pub neither : (kind : ℕ) (payload : List ℕ) → (kind ≢ 1) → (kind ≢ 2) → IsAsked kind payload None
neither kind payload a b = (λ is. absurd (a is), λ is. absurd (b is))

-- in numbers

pub sender-put : (sender : ℕ) (bytes : List ℕ) → bytes ≡ to_be_bytes w128 sender → sender < 2 ^ 128 → big_endian bytes ≡ sender
sender-put sender bytes made small = rw made (address-back sender small)

pub told-some : (asked : Option (ℕ × ℕ)) (sender budget told : ℕ) → asked ≡ Some (sender, budget) → told ≡ sender → IsTold asked 1 told budget
told-some asked sender budget told is same = rw is (refl, same, refl)

pub told-none : (asked : Option (ℕ × ℕ)) (told : ℕ) → asked ≡ None → told ≡ 0 → IsTold asked 0 told 0
told-none asked told is same = rw is (refl, same, refl)
