-- What is wanted after each record, from one to the next.
use Rattle.std.proofs.Common.{◌≡◌, ◌⊎◌, ℕ, suc, ◌+◌, List, length, Option, Result, Ok, Err, Bool, true, false, OnOk, IfErr, inl, inr, refl, subst, arith}
use Rattle.std.specs.Io.KnownBytes.{Consumes}
use Rattle.std.proofs.KnownBytes.{Consumes-trans}
use Rattle.mv_ledger_state.specs.View.{LedgerView}
use Rattle.moveledger.specs.Outcome.{EndsReading, left_of}
use Rattle.moveledger.specs.Progress.{Progress}
use Rattle.moveledger.specs.Pacing.{EndsBy, IsDoneAt, IsDoneFor, IsDoneForAll, IsDoneUntil, IsFailed, IsUnanswered}
use Rattle.moveledger.specs.Status.{end_after}
use Rattle.moveledger.specs.declared.streaming.EngineError.{EngineError}
use Rattle.moveledger.specs.declared.streaming.EngineError.TheVariants.{Read, Write, Memory}
use Rattle.moveledger.proofs.Steps.{Progress-reads}

-- it was done after each record so far, the last of which has this number
abbrev pub IsDoneSoFar : {R W A : Type 0} (left : R → Option (List ℕ)) (held_by : W → Option (List ℕ)) (does : ℕ → R → A → W → Result (Unit {0}) EngineError → A → W → Type 0)
    (before : ℕ) (given held : Option (List ℕ)) (ledger : LedgerView) (n : ℕ) (old new : A) → Type 0
IsDoneSoFar left held_by does before given held ledger n old new = (k : ℕ) × (n ≡ before + k) × IsDoneFor left held_by does before given held ledger k old new

module _ {R W A : Type 0} (left : R → Option (List ℕ)) (held_by : W → Option (List ℕ)) (does : ℕ → R → A → W → Result (Unit {0}) EngineError → A → W → Type 0)
    (before : ℕ) (given held : Option (List ℕ)) (ledger : LedgerView) where
  -- it is done where all up to its record is answered
  pub done-at : (n : ℕ) (old : A) (end : Result (Unit {0}) EngineError) (new : A) (reader : R) (writer leaves : W) (now : LedgerView)
      → Progress before given (left reader) held (held_by writer) ledger now n → does n reader old writer end new leaves
      → IsDoneAt left held_by does before given held ledger n old end new
  done-at n old end new reader writer leaves now answered done = record {
    reader = reader;
    writer = writer;
    leaves = leaves;
    now = now;
    answered = answered;
    done = done;
  }

  -- it is done after one more
  pub done-next : (n : ℕ) (old mid new : A) → IsDoneSoFar left held_by does before given held ledger n old mid
      → IsDoneAt left held_by does before given held ledger (n + 1) mid (Ok tt) new → IsDoneSoFar left held_by does before given held ledger (n + 1) old new
  done-next n old mid new h now =
      let number : n + 1 ≡ before + (h.0 + 1) = omega (arith, h.1) in
      let same : suc h.0 ≡ h.0 + 1 = omega arith in
      let P : ℕ → Type 0 = λ m. IsDoneFor left held_by does before given held ledger m old new in
      let Q : ℕ → Type 0 = λ m. IsDoneAt left held_by does before given held ledger m mid (Ok tt) new in
      (h.0 + 1, number, subst P same (mid, h.2, subst Q number now))

  module _ (gives gives2 holds : Option (List ℕ)) (now : LedgerView) (n : ℕ) (old mid : A) (p : Progress before given gives held holds ledger now n)
      (h : IsDoneSoFar left held_by does before given held ledger n old mid) where
    counted : IsDoneFor left held_by does before given held ledger (length p.records) old mid
    counted =
        let same : h.0 ≡ length p.records = omega (arith, h.1, p.count) in
        let P : ℕ → Type 0 = λ m. IsDoneFor left held_by does before given held ledger m old mid in
        subst P same h.2

    -- nothing more was answered
    pub done-until : (e : EngineError) (took : List ℕ) → Consumes gives gives2 took → IsUnanswered e took (left_of gives2)
        → IsDoneUntil left held_by does before given held ledger gives2 e old mid
    done-until e took taken unanswered = record {
      whole = p.whole;
      took = took;
      records = p.records;
      mid = mid;
      taken = Consumes-trans given gives gives2 p.whole took p.taken taken;
      read = p.read;
      done = counted;
      last = inl (unanswered, refl);
    }

    -- or what is wanted failed
    pub done-failed : (e : EngineError) (took : List ℕ) (new : A) → Consumes gives gives2 took
        → IsDoneAt left held_by does before given held ledger (n + 1) mid (Err e) new → IsDoneUntil left held_by does before given held ledger gives2 e old new
    done-failed e took new taken failed =
        let number : n + 1 ≡ before + (length p.records + 1) = omega (arith, p.count) in
        let P : ℕ → Type 0 = λ m. IsDoneAt left held_by does before given held ledger m mid (Err e) new in
        record {
          whole = p.whole;
          took = took;
          records = p.records;
          mid = mid;
          taken = Consumes-trans given gives gives2 p.whole took p.taken taken;
          read = p.read;
          done = counted;
          last = inr (subst P number failed);
        }

    -- or all were
    pub done-all : (m : ℕ) (took : List ℕ) → Consumes gives gives2 took → EndsReading m (before + length p.records) took (left_of gives2)
        → IsDoneForAll left held_by does before given held ledger gives2 m old mid
    unfolding Progress-reads
    done-all m took taken end = (Progress-reads p gives2 took taken m end, counted)

-- where nothing is wanted, it doesn't fail
pub never-failed : {R W A : Type 0} {left : R → Option (List ℕ)} {held_by : W → Option (List ℕ)} {before : ℕ} {given held : Option (List ℕ)} {ledger : LedgerView} {e : EngineError} {new : A} {P Q : Type 0}
    → P ⊎ (Q × IsFailed left held_by (λ number reader old writer end new leaves. end ≡ Ok tt) before given held ledger e new) → P
never-failed (inl h) = h
never-failed (inr h) = let bad = h.1.2.done in cc

-- the end of what was answered, after what the writer held was written out or wasn't
pub ends_by : (All : ℕ → Type 0) (Until : EngineError → Type 0) (n : ℕ) (answered : Result (Unit {0}) EngineError) (is_flushed : Bool) → OnOk answered (All n)
    → IfErr answered Until → EndsBy All Until (end_after answered is_flushed)
ends_by All Until n (Ok done) false ok err = inr (n, ok)
ends_by All Until n (Err e) false ok err = inl (e, err)
ends_by All Until n (Ok done) true ok err = (n, ok)
ends_by All Until n (Err Read) true ok err = err
ends_by All Until n (Err Write) true ok err = inl (Write, err)
ends_by All Until n (Err Memory) true ok err = err
