-- What is given to C, by what was made for it.
use Rattle.std.proofs.Common.{◌≡◌, ◌≢◌, ℕ, zero, suc, ℤ, List, [], Some, None, Ok, refl, sym, ap, ◌∙◌, subst, arith, inl, inr, w32, to_z, of_z}
use Rattle.std.proofs.KnownBytes.{Consumes-nil, Appends-nil}
use Rattle.std.specs.Io.KnownBytes.{Appends}
use Rattle.std.specs.Global.{Vec}
use Rattle.mv_ledger_state.specs.View.{LedgerView}
use Rattle.moveledger.specs.Outcome.{Begun, StopsAfter, StopsAt, part_of_a_record}
use Rattle.mv_analyser.specs.Principal.{IsOfLimits}
use Rattle.mv_analyser.specs.declared.ProveError.{ProveError}
use Rattle.mv_analyser.specs.declared.ProveError.TheVariants.{Refused, TooComplex, Memory}
use Rattle.moveledger.specs.Proving.{FailsProof, HasNoProof, IsAcceptedBack, IsProvedBy}
use Rattle.moveledger.specs.Reading.{at_kind}
use Rattle.moveledger_c.specs.Calls.{answer_of, payload_of, phase_of, IsProved}
use Rattle.moveledger_c.specs.Statuses.{refused}
use Rattle.moveledger_c.specs.Giving.{IsGiven}

-- a form that is neither of the two

pub payload_of-none : (form : ℕ) → (form ≢ 0) → (form ≢ 1) → payload_of form ≡ None
payload_of-none zero a b = absurd (a refl)
payload_of-none (suc zero) a b = absurd (b refl)
payload_of-none (suc (suc n)) a b = refl

-- no record was answered

pub StopsAfter-none : (before : ℕ) (records had has : List ℕ) (l : LedgerView) → had ≡ [] → has ≡ [] → StopsAfter (StopsAt Begun) before (Some records) (Some records) (Some had) (Some has) l l before
StopsAfter-none before records had has l a b = record {
  whole = [];
  took = [];
  records = [];
  text = [];
  part = [];
  mid = l;
  taken = Consumes-nil (Some records);
  read = λ more. refl;
  answered = omega arith;
  report = (refl, refl);
  last = part_of_a_record at_kind refl refl;
  written = subst (λ (x : List ℕ). Appends (Some had) (Some x) []) (a ∙ sym b) (Appends-nil (Some had));
}

-- a certificate's text

pub IsProved-given : (m digits text : List ℕ) (status : ℤ) (v : Vec ℕ) → IsGiven (Ok v) status text → v.items ≡ digits → IsProvedBy m digits → IsAcceptedBack m digits
    → IsProved m (to_z w32 (of_z w32 status)) 0 text
IsProved-given m digits text status v (inl h) e p a =
    inl (ap (λ s. to_z w32 (of_z w32 s)) h.0, refl, subst (IsProvedBy m) (sym (h.1 ∙ e)) p, subst (IsAcceptedBack m) (sym (h.1 ∙ e)) a)
IsProved-given m digits text status v (inr h) e p a = inr (inr (inr (ap (λ s. to_z w32 (of_z w32 s)) h.0, refl, h.1)))

-- where none is made: a status comes back from its bits

abbrev bits : ℤ → ℤ
bits status = to_z w32 (of_z w32 status)

pub IsProved-none : (m text : List ℕ) (status : ℤ) (why : ℕ) (e : ProveError) → HasNoProof m e → text ≡ [] → why ≡ phase_of e → status ≡ answer_of e
    → IsProved m (to_z w32 (of_z w32 status)) why text
IsProved-none m text status why (Refused p) h none why_is status_is = inr (inl (ap bits status_is, none, subst (FailsProof m) (sym why_is) h))
IsProved-none m text status why TooComplex h none why_is status_is = inr (inr (inl (ap bits status_is, why_is, none, h)))
IsProved-none m text status why Memory h none why_is status_is = inr (inr (inr (ap bits status_is, why_is, none)))

not_refused : (e : ProveError) → IsOfLimits e → answer_of e ≡ refused → ⊥
not_refused (Refused p) h is = absurd h
not_refused TooComplex h is = cc
not_refused Memory h is = cc

from_bits : (e : ProveError) → to_z w32 (of_z w32 (answer_of e)) ≡ answer_of e
from_bits (Refused p) = refl
from_bits TooComplex = refl
from_bits Memory = refl

pub of_limits-not_refused : (e : ProveError) (status : ℤ) → IsOfLimits e → status ≡ answer_of e → to_z w32 (of_z w32 status) ≡ refused → ⊥
of_limits-not_refused e status h same is = not_refused e h (sym (from_bits e) ∙ sym (ap bits same) ∙ is)
