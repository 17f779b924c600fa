-- What an end says of what was answered.
use Rattle.std.proofs.Common.{◌≡◌, ℕ, List, ◌++◌, Option, Result, Ok, Err, Bool, true, false, IfErr, IfOk, MatchResult, OnOk, OnErr, is_ok, refl, inl, inr, ap, arith, subst, sym}
use Rattle.std.specs.Io.KnownBytes.{Keeps}
use Rattle.std.proofs.KnownBytes.{Appends-kept}
use Rattle.mv_ledger_state.specs.View.{LedgerView}
use Rattle.moveledger.specs.Headline.{Headline}
use Rattle.moveledger.specs.Outcome.{AnswersOn, Begun, BegunByLines, Ends, GoesOn, ReadsAll, ReadsOn, Stops, StopsAfter, StopsAt, StopsByLines, StopsReading, Unread}
use Rattle.moveledger.specs.Status.{end_after}
use Rattle.moveledger.specs.declared.streaming.EngineError.{EngineError}
use Rattle.moveledger.specs.declared.streaming.EngineError.TheVariants.{Read, Write, Memory}

-- what the writer holds stays

-- where none were answered before, that is the headline
pub Headline-kept : (given held mid holds : Option (List ℕ)) (old new : LedgerView) (n : ℕ) → GoesOn 0 given held mid old new n → Keeps mid holds
    → Headline given held holds old new n
Headline-kept given held mid holds old new n h kept = record {
  input = h.input;
  records = h.records;
  rest = h.rest;
  text = h.text;
  told = h.told;
  read = h.read;
  all = h.all;
  answered = omega (arith, h.answered);
  report = h.report;
  written = Appends-kept held mid holds h.text h.written kept;
}

Stops-kept : (Last : ℕ → List ℕ → List ℕ → LedgerView → LedgerView → List ℕ → Type 0) (given gives held mid holds : Option (List ℕ)) (old new : LedgerView) (n : ℕ)
    → StopsAfter Last 0 given gives held mid old new n → Keeps mid holds → StopsAfter Last 0 given gives held holds old new n
Stops-kept Last given gives held mid holds old new n h kept = record {
  whole = h.whole;
  took = h.took;
  records = h.records;
  text = h.text;
  part = h.part;
  mid = h.mid;
  taken = h.taken;
  read = h.read;
  answered = h.answered;
  report = h.report;
  last = h.last;
  written = Appends-kept held mid holds (h.text ++ h.part) h.written kept;
}

-- the end of what was answered, after what the writer held was written out or wasn't
pub ends_after : (n : ℕ) (answered : Result (Unit {0}) EngineError) (is_flushed : Bool) (given gives held mid holds : Option (List ℕ)) (old new : LedgerView)
    → OnOk answered (GoesOn 0 given held mid old new n) → OnOk answered (ReadsOn 0 given gives n) → OnErr answered (StopsAfter (StopsAt Begun) 0 given gives held mid old new n)
    → (answered ≡ Err Read → StopsAfter Unread 0 given gives held mid old new n) → (answered ≡ Err Memory → StopsAfter (StopsAt BegunByLines) 0 given gives held mid old new n)
    → Keeps mid holds → Ends (end_after answered is_flushed) given gives held holds old new
ends_after n (Ok done) false given gives held mid holds old new ok taken err read memory kept = inr (n, Headline-kept given held mid holds old new n ok kept, taken)
ends_after n (Err e) false given gives held mid holds old new ok taken err read memory kept = inl (n, Stops-kept (StopsAt Begun) given gives held mid holds old new n err kept)
ends_after n (Ok done) true given gives held mid holds old new ok taken err read memory kept = (n, Headline-kept given held mid holds old new n ok kept, taken)
ends_after n (Err Read) true given gives held mid holds old new ok taken err read memory kept = (n, Stops-kept Unread given gives held mid holds old new n (read refl) kept)
ends_after n (Err Write) true given gives held mid holds old new ok taken err read memory kept = inl (n, Stops-kept (StopsAt Begun) given gives held mid holds old new n err kept)
ends_after n (Err Memory) true given gives held mid holds old new ok taken err read memory kept = (n, Stops-kept (StopsAt BegunByLines) given gives held mid holds old new n (memory refl) kept)

-- the same after `engine`, which says how many records it answered

Headline-stays : (given held mid holds : Option (List ℕ)) (old new : LedgerView) (n : ℕ) → Headline given held mid old new n → Keeps mid holds
    → Headline given held holds old new n
Headline-stays given held mid holds old new n h kept = record {
  input = h.input;
  records = h.records;
  rest = h.rest;
  text = h.text;
  told = h.told;
  read = h.read;
  all = h.all;
  answered = h.answered;
  report = h.report;
  written = Appends-kept held mid holds h.text h.written kept;
}

ends_stopped : (e : EngineError) (is_flushed : Bool) (given gives held mid holds : Option (List ℕ)) (old new : LedgerView)
    → Stops given gives held mid old new → (e ≡ Read → StopsReading given gives held mid old new) → (e ≡ Memory → StopsByLines given gives held mid old new)
    → Keeps mid holds → Ends (end_after {A = Unit {0}} (Err e) is_flushed) given gives held holds old new
ends_stopped e false given gives held mid holds old new err read memory kept = inl (err.0, Stops-kept (StopsAt Begun) given gives held mid holds old new err.0 err.1 kept)
ends_stopped Read true given gives held mid holds old new err read memory kept =
    let h = read refl in (h.0, Stops-kept Unread given gives held mid holds old new h.0 h.1 kept)
ends_stopped Write true given gives held mid holds old new err read memory kept = inl (err.0, Stops-kept (StopsAt Begun) given gives held mid holds old new err.0 err.1 kept)
ends_stopped Memory true given gives held mid holds old new err read memory kept =
    let h = memory refl in (h.0, Stops-kept (StopsAt BegunByLines) given gives held mid holds old new h.0 h.1 kept)

pub ends_after_engine : (P : ℕ → Type 0) (answered : Result ℕ EngineError) (told : Result (Unit {0}) EngineError) (is_flushed : Bool)
    (given gives held mid holds : Option (List ℕ)) (old new : LedgerView) → is_ok told ≡ is_ok answered → MatchResult answered P (λ e. told ≡ Err e)
    → IfOk answered (λ n. Headline given held mid old new n) → IfOk answered (λ n. ReadsAll given gives n) → IfErr answered (λ _. Stops given gives held mid old new)
    → (answered ≡ Err Read → StopsReading given gives held mid old new) → (answered ≡ Err Memory → StopsByLines given gives held mid old new)
    → Keeps mid holds → Ends (end_after told is_flushed) given gives held holds old new
ends_after_engine P (Ok n) (Ok done) false given gives held mid holds old new same is ok taken err read memory kept =
    inr (n, Headline-stays given held mid holds old new n ok kept, taken)
ends_after_engine P (Ok n) (Ok done) true given gives held mid holds old new same is ok taken err read memory kept =
    (n, Headline-stays given held mid holds old new n ok kept, taken)
ends_after_engine P (Ok n) (Err e) is_flushed given gives held mid holds old new same is ok taken err read memory kept = absurd (cc)
ends_after_engine P (Err e) told is_flushed given gives held mid holds old new same is ok taken err read memory kept =
    let read2 : e ≡ Read → StopsReading given gives held mid old new = λ r. read (ap Err r) in
    let memory2 : e ≡ Memory → StopsByLines given gives held mid old new = λ m. memory (ap Err m) in
    subst (λ t. Ends (end_after t is_flushed) given gives held holds old new) (sym is)
    (ends_stopped e is_flushed given gives held mid holds old new err read2 memory2 kept)

-- ---- by numbers that go on

-- all records were answered, and all was read
pub goes-on : {before : ℕ} {given gives held holds : Option (List ℕ)} {old new : LedgerView} {n : ℕ} → GoesOn before given held holds old new n
    → ReadsOn before given gives n → AnswersOn before given gives held holds old new n (Ok tt)
goes-on is taken = record { ok = is; taken = taken; err = tt; read = λ failed. cc; memory = λ failed. cc }

-- an error came
pub stops-on : {before : ℕ} {given gives held holds : Option (List ℕ)} {old new : LedgerView} {n : ℕ} {result : Result (Unit {0}) EngineError} (e : EngineError) → result ≡ Err e
    → StopsAfter (StopsAt Begun) before given gives held holds old new n
    → (result ≡ Err Read → StopsAfter Unread before given gives held holds old new n)
    → (result ≡ Err Memory → StopsAfter (StopsAt BegunByLines) before given gives held holds old new n)
    → AnswersOn before given gives held holds old new n result
stops-on e is err read memory = record { ok = rw is tt; taken = rw is tt; err = rw is err; read = read; memory = memory }
