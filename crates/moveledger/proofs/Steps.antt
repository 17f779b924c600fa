-- From one record to the next.
use Rattle.std.proofs.Common.{◌≡◌, ◌≢◌, ◌⊎◌, ℕ, ◌+◌, List, [], ◌∷◌, ◌++◌, length, arith, refl, sym, ap, ◌∙◌, subst, append_assoc, append-nil}
use Rattle.std.proofs.Common.{length-append, take_all, le_refl, Option, Some, None, Result, Err, inl, inr, flat_map}
use Rattle.std.specs.Io.{StartsWith}
use Rattle.std.specs.Io.KnownBytes.{Consumes, Appends}
use Rattle.std.proofs.Transfers.{starts_with_of_append}
use Rattle.std.proofs.lemmas.Grind.{flat_map-append}
use Rattle.std.proofs.KnownBytes.{Consumes-nil, Appends-nil, Consumes-trans, Appends-trans}
use Rattle.mv_ledger_state.specs.View.{LedgerView}
use Rattle.mv_machine.specs.Lines.{Refused, reply_lines, numbered}
use Rattle.moveledger.specs.Records.{Record, Whole, Cut, IsText, Begins, AreRecords, most_records}
use Rattle.moveledger.specs.Headline.{Step, Reports, Tells}
use Rattle.moveledger.specs.Reading.{IsCutAt}
use Rattle.moveledger.specs.Outcome.{left_of, Begun, BegunByLines, EndsReading, GoesOn, ReadsOn, StopsAfter, StopsAt, being_answered, read_and_nothing_done}
use Rattle.moveledger.specs.Progress.{Progress}
use Rattle.moveledger.specs.Answered.{FailsReply, FailsToAnswer, MayBeAnsweredByLines}
use Rattle.moveledger.specs.Writing.{IsByLines}
use Rattle.moveledger.specs.declared.streaming.EngineError.{EngineError}
use Rattle.moveledger.specs.declared.streaming.EngineError.TheVariants.{Read, Write, Memory}
use Rattle.moveledger.proofs.Taken.{Appends-same, Tells-taken}
use Rattle.moveledger.proofs.Unfinished.{NoWhole-cut, some-cut}

-- one more record after others

AreRecords-push : (rs : List Record) (xs rest more : List ℕ) (r : Record) → AreRecords xs rs rest → Begins rest r more → AreRecords xs (rs ++ r ∷ []) more
AreRecords-push [] xs rest more r e b = (more, subst (λ z. Begins z r more) (sym e) b, refl)
AreRecords-push (r1 ∷ rs) xs rest more r h b = (h.0, h.1, AreRecords-push rs h.0 rest more r h.2 b)

Reports-push : (rs : List Record) (n : ℕ) (old mid new : LedgerView) (r : Record) (text : List ℕ) (lines : List (List ℕ)) → Reports n old rs text mid → Step mid r lines new
    → Reports n old (rs ++ r ∷ []) (text ++ flat_map (numbered (n + length rs)) lines) new
Reports-push [] n old mid new r text lines h step =
    let same : n + 0 ≡ n = omega arith in
    let P : LedgerView → Type 0 = λ s. Step s r lines new in
    (lines, new, [], subst P h.1 step, ap (λ l. l ++ flat_map (numbered (n + 0)) lines) h.0 ∙ ap (λ m. flat_map (numbered m) lines) same ∙ sym (append-nil (flat_map (numbered n) lines)), (refl, refl))
Reports-push (r1 ∷ rs) n old mid new r text lines h step =
    let same : n + length (r1 ∷ rs) ≡ (n + 1) + length rs = omega arith in
    let tail : List ℕ = flat_map (numbered ((n + 1) + length rs)) lines in
    let first : List ℕ = flat_map (numbered n) h.0 in
    (h.0, h.1, h.2 ++ tail, h.3, ap (λ m. text ++ flat_map (numbered m) lines) same ∙ ap (λ l. l ++ tail) h.4 ∙ append_assoc first h.2 tail, Reports-push rs (n + 1) h.1 mid new r h.2 lines h.5 step)

length-push : (rs : List Record) (r : Record) → length (rs ++ r ∷ []) ≡ length rs + 1
length-push rs r = length-append rs (r ∷ [])

-- what is told

Tells-trans : (a b : Option (List ℕ)) (took tail : List ℕ) → Consumes a b took → Tells b tail → Tells a (took ++ tail)
Tells-trans None b took tail p q = tt
Tells-trans (Some xs) None took tail p q = absurd p
Tells-trans (Some xs) (Some ys) took tail p q = p ∙ ap (λ l. took ++ l) q

nonempty : (xs ys : List ℕ) → (xs ≢ []) → xs ++ ys ≢ []
nonempty [] ys h e = h refl
nonempty (x ∷ xs) ys h e = cc

-- whole lines are a prefix of all, as is one of a line of JSON
IsByLines-begun : (r : Record) (n : ℕ) (lines : List (List ℕ)) (part : List ℕ) → IsByLines r n lines part → StartsWith (flat_map (numbered n) lines) part
IsByLines-begun r n lines part (inl h) =
    let rest : List ℕ = flat_map (numbered n) h.1 in
    starts_with_of_append (flat_map (numbered n) lines) part rest (ap (flat_map (numbered n)) h.2 ∙ flat_map-append (numbered n) h.0 h.1 ∙ ap (λ l. l ++ rest) (sym h.3))
IsByLines-begun r n lines part (inr h) = h.1

-- the run

pub Progress-start : (a w : Option (List ℕ)) (s : LedgerView) (before : ℕ) → Progress before a a w w s s before
Progress-start a w s before = record {
  whole = [];
  records = [];
  text = [];
  taken = Consumes-nil a;
  read = λ more. refl;
  count = omega arith;
  written = Appends-nil w;
  report = (refl, refl);
}

-- the writer may be another one that has taken the same bytes
pub moved : {before : ℕ} {given gives held holds other : Option (List ℕ)} {old new : LedgerView} {n : ℕ} → other ≡ holds
    → Progress before given gives held holds old new n → Progress before given gives held other old new n
moved {before} {given} {gives} {held} {holds} {other} {old} {new} {n} e p =
    let P : Option (List ℕ) → Type 0 = λ h. Progress before given gives held h old new n in
    subst P (sym e) p

module _ {before : ℕ} {given gives held holds : Option (List ℕ)} {old new : LedgerView} {n : ℕ} (p : Progress before given gives held holds old new n) where
  -- the report and the number of one more record
  report-push : (r : Record) (lines : List (List ℕ)) (new2 : LedgerView) → Step new r lines new2
      → Reports (before + 1) old (p.records ++ r ∷ []) (p.text ++ flat_map (numbered (n + 1)) lines) new2
  report-push r lines new2 step =
      let number : (before + 1) + length p.records ≡ n + 1 = omega (arith, p.count) in
      let P : ℕ → Type 0 = λ m. Reports (before + 1) old (p.records ++ r ∷ []) (p.text ++ flat_map (numbered m) lines) new2 in
      subst P number (Reports-push p.records (before + 1) old new new2 r p.text lines p.report step)

  count-push : (r : Record) → n + 1 ≡ before + length (p.records ++ r ∷ [])
  count-push r = omega (arith, p.count, length-push p.records r)

  -- all records were answered
  goes_on : (rest : List ℕ) → Tells given (p.whole ++ rest) → (rest ≡ []) ⊎ (n ≡ most_records) → GoesOn before given held holds old new n
  goes_on rest told all = record {
    input = p.whole ++ rest;
    records = p.records;
    rest = rest;
    text = p.text;
    told = told;
    read = p.read rest;
    all = all;
    answered = p.count;
    report = p.report;
    written = p.written;
  }

  -- as many as there are numbers
  pub Progress-full : n ≡ most_records → GoesOn before given held holds old new n
  Progress-full full = goes_on (left_of gives) (Tells-taken given gives p.whole p.taken) (inr full)

  -- these bytes were read behind the records
  module _ (gives2 : Option (List ℕ)) (took : List ℕ) (taken : Consumes gives gives2 took) where
    told-on : Tells given (p.whole ++ (took ++ left_of gives2))
    told-on = Tells-trans given gives p.whole (took ++ left_of gives2) p.taken (Tells-taken gives gives2 took taken)

    -- they are a record, which was answered
    pub Progress-next : (holds2 : Option (List ℕ)) (new2 : LedgerView) (kind : ℕ) (items : List ℕ) (lines : List (List ℕ)) → IsText took kind items
        → Step new (Whole kind items) lines new2 → Appends holds holds2 (flat_map (numbered (n + 1)) lines) → Progress before given gives2 held holds2 old new2 (n + 1)
    Progress-next holds2 new2 kind items lines is step written =
        let r : Record = Whole kind items in
        record {
          whole = p.whole ++ took;
          records = p.records ++ r ∷ [];
          text = p.text ++ flat_map (numbered (n + 1)) lines;
          taken = Consumes-trans given gives gives2 p.whole took p.taken taken;
          read = λ more. subst (λ z. AreRecords z (p.records ++ r ∷ []) more) (sym (append_assoc p.whole took more))
              (AreRecords-push p.records (p.whole ++ (took ++ more)) (took ++ more) more r (p.read (took ++ more)) (took, is, refl));
          count = count-push r;
          written = Appends-trans held holds holds2 p.text (flat_map (numbered (n + 1)) lines) p.written written;
          report = report-push r lines new2 step;
        }

    -- it stops there, and there is this to say of them
    pub Stops-with : (Last : ℕ → List ℕ → List ℕ → LedgerView → LedgerView → List ℕ → Type 0) (holds2 : Option (List ℕ)) (new2 : LedgerView) (part : List ℕ)
        → Last (n + 1) took (left_of gives2) new new2 part → Appends holds holds2 part → StopsAfter Last before given gives2 held holds2 old new2 n
    Stops-with Last holds2 new2 part last written = record {
      whole = p.whole;
      took = took;
      records = p.records;
      text = p.text;
      part = part;
      mid = new;
      taken = Consumes-trans given gives gives2 p.whole took p.taken taken;
      read = p.read;
      answered = p.count;
      report = p.report;
      last = last;
      written = Appends-trans held holds holds2 p.text part p.written written;
    }

    -- they are a record, whose answer may have been begun
    pub Stops-answered : (holds2 : Option (List ℕ)) (new2 : LedgerView) (kind : ℕ) (items : List ℕ) (e : EngineError) → IsText took kind items
        → FailsToAnswer e (n + 1) kind items new new2 holds holds2 → StopsAfter (StopsAt Begun) before given gives2 held holds2 old new2 n
    Stops-answered holds2 new2 kind items Read is h = absurd h
    Stops-answered holds2 new2 kind items Write is h =
        Stops-with (StopsAt Begun) holds2 new2 h.1.1.0 (being_answered (Whole kind items, h.0, is, h.1.0, h.1.1.1)) h.1.1.3
    Stops-answered holds2 new2 kind items Memory is (inl h) = Stops-with (StopsAt Begun) holds2 new2 [] (read_and_nothing_done (Whole kind items) is h.0 refl) h.1
    Stops-answered holds2 new2 kind items Memory is (inr h) =
        Stops-with (StopsAt Begun) holds2 new2 h.1 (being_answered (Whole kind items, h.0, is, h.2, IsByLines-begun (Whole kind items) (n + 1) h.0 h.1 h.3)) h.4

    -- or a cut one, likewise
    pub Stops-cut : (holds2 : Option (List ℕ)) (e : EngineError) → IsCutAt took (left_of gives2)
        → FailsReply e (n + 1) (Some (Refused 1)) holds holds2 → StopsAfter (StopsAt Begun) before given gives2 held holds2 old new n
    Stops-cut holds2 Read cut h = absurd h
    Stops-cut holds2 Write cut h = Stops-with (StopsAt Begun) holds2 new h.0 (being_answered (Cut, reply_lines (Refused 1), cut, (refl, refl), h.1)) h.3
    Stops-cut holds2 Memory cut h = Stops-with (StopsAt Begun) holds2 new [] (read_and_nothing_done Cut cut refl refl) (Appends-same holds holds2 h)

    -- or whole lines of it were written, if it doesn't ask for JSON
    pub Stops-by_lines : (holds2 : Option (List ℕ)) (new2 : LedgerView) (kind : ℕ) (items : List ℕ) → IsText took kind items
        → MayBeAnsweredByLines (n + 1) kind items new new2 holds holds2 → StopsAfter (StopsAt BegunByLines) before given gives2 held holds2 old new2 n
    Stops-by_lines holds2 new2 kind items is (inl h) = Stops-with (StopsAt BegunByLines) holds2 new2 [] (read_and_nothing_done (Whole kind items) is h.0 refl) h.1
    Stops-by_lines holds2 new2 kind items is (inr h) =
        Stops-with (StopsAt BegunByLines) holds2 new2 h.1 (being_answered (Whole kind items, h.0, is, h.2, h.3)) h.4

    -- the input ended
    pub Progress-ends : took ≡ [] → left_of gives2 ≡ [] → GoesOn before given held holds old new n
    Progress-ends none end = goes_on (took ++ left_of gives2) told-on (inl (ap (λ l. l ++ left_of gives2) none ∙ end))

    -- up to there it was read
    unfoldable pub Progress-reads : (m : ℕ) → EndsReading m (before + length p.records) took (left_of gives2) → ReadsOn before given gives2 m
    Progress-reads m end = record {
      whole = p.whole;
      part = took;
      records = p.records;
      taken = Consumes-trans given gives gives2 p.whole took p.taken taken;
      read = p.read;
      end = end;
    }

    -- the last record was cut
    pub Progress-cut : (holds2 : Option (List ℕ)) → IsCutAt took (left_of gives2)
        → Appends holds holds2 (flat_map (numbered (n + 1)) (reply_lines (Refused 1))) → GoesOn before given held holds2 old new (n + 1)
    Progress-cut holds2 cut written =
        let r : Record = Cut in
        let lines : List (List ℕ) = reply_lines (Refused 1) in
        let tail : List ℕ = took ++ left_of gives2 in
        record {
          input = p.whole ++ tail;
          records = p.records ++ r ∷ [];
          rest = [];
          text = p.text ++ flat_map (numbered (n + 1)) lines;
          told = told-on;
          read = AreRecords-push p.records (p.whole ++ tail) tail [] r (p.read tail) (nonempty took (left_of gives2) (some-cut took (left_of gives2) cut), NoWhole-cut took (left_of gives2) cut, refl);
          all = inl refl;
          answered = count-push r;
          report = report-push r lines new (refl, refl);
          written = Appends-trans held holds holds2 p.text (flat_map (numbered (n + 1)) lines) p.written written;
        }

-- a text begins with itself
pub StartsWith-whole : (text : List ℕ) → StartsWith text text
StartsWith-whole text = take_all (length text) text (le_refl _)

-- the error of a result that was handed on
pub error-is : {S E : Type 0} (r : Result S E) (x f e : E) → r ≡ Err x → x ≡ f → r ≡ Err e → f ≡ e
error-is r x f e is same given =
    let one : x ≡ e = cc in
    sym same ∙ one
