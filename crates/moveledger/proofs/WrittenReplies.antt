-- What a reply that was written answers.
use Rattle.std.proofs.Common.{◌≡◌, ◌≢◌, ℕ, List, [], ◌∷◌, refl, sym, ap, ◌∙◌, subst, append-nil, Option, Some, None, inl, inr, flat_map}
use Rattle.std.proofs.lemmas.Result.{IfErr-weaker}
use Rattle.std.specs.Prelude.{Result, Ok, Err, IfErr, IfOk, OnOk}
use Rattle.mv_machine.specs.declared.Ending.{Ending}
use Rattle.mv_machine.specs.declared.Ending.TheVariants.{Returned as HasReturned, Aborted as HasAborted, Exhausted as HasExhausted}
use Rattle.mv_machine.specs.Lines.{Reply as Told, Refused as ToldRefused, Told as ToldLines, reply_lines, numbered}
use Rattle.mv_machine.specs.Ledger.{Publish, Run, Show, Audit, BadRun, Bad, Format, AsText, AsJson}
use Rattle.mv_move_types.specs.declared.refusal.Refusal.{Refusal as ReportRefusal}
use Rattle.mv_lines.specs.LinesView.{LinesView}
use Rattle.mv_ledger_state.specs.RecordText.{IsShapeless, format_text}
use Rattle.mv_ledger.specs.Answering.{Replies, told, told_ending, told_lines}
use Rattle.mv_ledger_state.specs.View.{LedgerView, state_of}
use Rattle.mv_ledger_state.specs.Accepted.SoundLedger.{IsSoundLedger}
use Rattle.mv_ledger.specs.declared.Reply.{Reply}
use Rattle.mv_ledger.specs.declared.Reply.TheVariants.{Published, Refused, Rejected, Ran, Memory}
use Rattle.moveledger.proofs.HeadlineLemmas.{answers_whole}
use Rattle.moveledger.specs.Answered.{BreaksOffReply, FailsLines, FailsReply, FailsReport, FailsToAnswer, IsAnswered, IsBrokenOff, MayBeAnsweredByLines, WritesReply, WritesSome, WritesWholeLines, line_of}
use Rattle.moveledger.specs.declared.streaming.EngineError.{EngineError}
use Rattle.moveledger.specs.declared.streaming.EngineError.TheVariants.{Read as NotRead, Write as NotWritten, Memory as NoMemory}
use Rattle.moveledger.specs.Records.{Whole}
use Rattle.moveledger.specs.Writing.{AsksJson, BreaksOff}
use Rattle.moveledger.proofs.Taken.{Appends-same}

-- ---- a reply has one line

ended_line : (ending : Ending) (steps : ℕ) → reply_lines (told_ending ending steps) ≡ line_of (told_ending ending steps) ∷ []
ended_line HasReturned steps = refl
ended_line (HasAborted kind number) steps = refl
ended_line (HasExhausted stop) steps = refl

along : (s t : Told) → Some s ≡ Some t → reply_lines s ≡ line_of s ∷ [] → reply_lines t ≡ line_of t ∷ []
along s t is one =
    let same : s ≡ t = cc in
    let P : Told → Type 0 = λ u. reply_lines u ≡ line_of u ∷ [] in
    subst P same one

one_line : (reply : Reply) (t : Told) → told reply ≡ Some t → reply_lines t ≡ line_of t ∷ []
one_line (Published n) t is = along _ t is refl
one_line (Refused n) t is = along _ t is refl
one_line (Rejected n) t is = along _ t is refl
one_line (Ran outcome) t is = along _ t is (ended_line outcome.ending outcome.steps)
one_line Memory t is = cc

-- the text of its line is that of its lines
lines_text : (n : ℕ) (reply : Reply) (t : Told) (text : List ℕ) → told reply ≡ Some t → text ≡ line_of t → numbered n text ≡ flat_map (numbered n) (reply_lines t)
lines_text n reply t text is line = ap (numbered n) line ∙ sym (ap (flat_map (numbered n)) (one_line reply t is) ∙ append-nil (numbered n (line_of t)))

-- writing it broke off
pub reply_fails : (n : ℕ) (reply : Reply) (held holds : Option (List ℕ)) (text : List ℕ) (e : EngineError) → ((t : Told) × ((told reply ≡ Some t) × (text ≡ line_of t))) → e ≡ NotWritten
    → BreaksOff (numbered n text) held holds → FailsReply e n (told reply) held holds
reply_fails n reply held holds text e h is broken =
    let P : Option Told → Type 0 = λ o. BreaksOffReply n o held holds in
    let Q : List ℕ → Type 0 = λ l. BreaksOff l held holds in
    let E : EngineError → Type 0 = λ z. FailsReply z n (told reply) held holds in
    subst E (sym is) (subst P (sym h.1.0) (subst Q (lines_text n reply h.0 text h.1.0 h.1.1) broken))

-- ---- it answers its record

answered : (n kind : ℕ) (payload : List ℕ) (reply : Option Told) (old new : LedgerView) (held holds : Option (List ℕ)) → Replies kind payload reply old new → WritesReply n reply held holds
    → IsAnswered n kind payload old new held holds
answered n kind payload None old new held holds replies written = absurd written
answered n kind payload (Some t) old new held holds replies written = (reply_lines t, ((t, (answers_whole kind payload t old new replies, refl)), written))

-- whole lines of it were written
told_by_lines : (n kind : ℕ) (payload : List ℕ) (t : Told) (old new : LedgerView) (held holds : Option (List ℕ)) → Replies kind payload (Some t) old new
    → WritesWholeLines n (reply_lines t) held holds → MayBeAnsweredByLines n kind payload old new held holds
told_by_lines n kind payload t old new held holds replies written =
    inr (reply_lines t, written.0, (t, (answers_whole kind payload t old new replies, refl)), inl written.1, written.2)

-- or of a show or an audit a prefix, if JSON is asked for
lines_told : (n kind : ℕ) (payload : List ℕ) (format : Format) (left : List (List ℕ)) (v : LedgerView) (held holds : Option (List ℕ)) → (payload ≡ format_text AsJson → AsksJson (Whole kind payload))
    → payload ≡ format_text format → Replies kind payload (Some (ToldLines left)) v v → WritesSome format n left held holds → MayBeAnsweredByLines n kind payload v v held holds
lines_told n kind payload AsText left v held holds json asked replies written = told_by_lines n kind payload (ToldLines left) v v held holds replies written
lines_told n kind payload AsJson left v held holds json asked replies written =
    inr (left, written.0, (ToldLines left, (answers_whole kind payload (ToldLines left) v v replies, refl)), inr (json asked, written.1), written.2)

-- or nothing, where memory ran out before
unwritten : (n kind : ℕ) (payload : List ℕ) (reply : Option Told) (old new : LedgerView) (held holds : Option (List ℕ)) → Replies kind payload reply old new → holds ≡ held
    → MayBeAnsweredByLines n kind payload old new held holds
unwritten n kind payload None old new held holds replies same = inl (replies, Appends-same held holds same)
unwritten n kind payload (Some t) old new held holds replies same =
    told_by_lines n kind payload t old new held holds replies ([], ([], reply_lines t, refl, refl), Appends-same held holds same)

-- a write fails only where something is told, and not all of it is written then
broken_off : (n kind : ℕ) (payload : List ℕ) (reply : Option Told) (old new : LedgerView) (held holds : Option (List ℕ)) → Replies kind payload reply old new → BreaksOffReply n reply held holds
    → IsBrokenOff n kind payload old new held holds
broken_off n kind payload None old new held holds replies broken = absurd broken
broken_off n kind payload (Some t) old new held holds replies broken = (reply_lines t, ((t, (answers_whole kind payload t old new replies, refl)), broken))

-- the same by the error
reply_unanswered : (n kind : ℕ) (payload : List ℕ) (reply : Option Told) (old new : LedgerView) (held holds : Option (List ℕ)) (e : EngineError) → Replies kind payload reply old new
    → FailsReply e n reply held holds → FailsToAnswer e n kind payload old new held holds
reply_unanswered n kind payload reply old new held holds NotRead replies fails = fails
reply_unanswered n kind payload reply old new held holds NotWritten replies fails = broken_off n kind payload reply old new held holds replies fails
reply_unanswered n kind payload reply old new held holds NoMemory replies fails = unwritten n kind payload reply old new held holds replies fails

lines_unanswered : (n kind : ℕ) (payload : List ℕ) (lines : LinesView) (v : LedgerView) (held holds : Option (List ℕ)) (e : EngineError) → (payload ≡ format_text AsJson → AsksJson (Whole kind payload))
    → payload ≡ format_text lines.format → Replies kind payload (Some (ToldLines lines.left)) v v → FailsLines e lines.format n lines.left held holds → FailsToAnswer e n kind payload v v held holds
lines_unanswered n kind payload lines v held holds NotRead json asked replies fails = fails
lines_unanswered n kind payload lines v held holds NotWritten json asked replies fails = broken_off n kind payload (Some (ToldLines lines.left)) v v held holds replies fails
lines_unanswered n kind payload lines v held holds NoMemory json asked replies fails = lines_told n kind payload lines.format lines.left v held holds json asked replies fails

-- ---- what is written answers a record of this kind, or fails to

pub written_answers : {T E : Type 0} (n kind same : ℕ) (payload : List ℕ) (reply : Option Told) (old new : LedgerView) (held holds : Option (List ℕ)) (r : Result T E) → kind ≡ same
    → Replies same payload reply old new
    → OnOk r (WritesReply n reply held holds) → OnOk r (IsAnswered n kind payload old new held holds)
written_answers n kind same payload reply old new held holds (Ok v) is replies written =
    let P : ℕ → Type 0 = λ k. Replies k payload reply old new in
    answered n kind payload reply old new held holds (subst P (sym is) replies) written
written_answers n kind same payload reply old new held holds (Err e) is replies written = tt

pub reply_fails_to_answer : {T : Type 0} (n kind same : ℕ) (payload : List ℕ) (reply : Option Told) (old new : LedgerView) (held holds : Option (List ℕ)) (r : Result T EngineError) → kind ≡ same
    → Replies same payload reply old new
    → IfErr r (λ e. FailsReply e n reply held holds) → IfErr r (λ e. FailsToAnswer e n kind payload old new held holds)
reply_fails_to_answer n kind same payload reply old new held holds r is replies =
    let P : ℕ → Type 0 = λ k. Replies k payload reply old new in
    IfErr-weaker r _ _ (λ e. reply_unanswered n kind payload reply old new held holds e (subst P (sym is) replies))

pub report_fails_to_answer : {T : Type 0} (n kind same : ℕ) (payload : List ℕ) (v : LedgerView) (held holds : Option (List ℕ)) (r : Result T EngineError) → kind ≡ same
    → (payload ≡ format_text AsJson → AsksJson (Whole kind payload)) → (report : Result LinesView ReportRefusal) → Replies same payload (told_lines report) v v
    → IfOk report (λ lines. payload ≡ format_text lines.format)
    → IfErr r (λ e. FailsReport e n report held holds) → IfErr r (λ e. FailsToAnswer e n kind payload v v held holds)
report_fails_to_answer n kind same payload v held holds r is json (Ok lines) replies asked =
    let P : ℕ → Type 0 = λ k. Replies k payload (told_lines (Ok lines)) v v in
    IfErr-weaker r _ _ (λ e. lines_unanswered n kind payload lines v held holds e json asked (subst P (sym is) replies))
report_fails_to_answer n kind same payload v held holds r is json (Err refusal) replies asked =
    reply_fails_to_answer n kind same payload (told_lines (Err refusal)) v v held holds r is replies

-- a payload of a kind of no record has no shape
shapeless : (kind : ℕ) (payload : List ℕ) → (kind ≢ 1) → (kind ≢ 2) → (kind ≢ 3) → (kind ≢ 4) → IsShapeless kind payload
shapeless kind payload one two three four (Publish sender offers) h = one h.0
shapeless kind payload one two three four (Run r) h = two h.0
shapeless kind payload one two three four (Show format) h = three h.0
shapeless kind payload one two three four (Audit format) h = four h.0
shapeless kind payload one two three four BadRun h = h
shapeless kind payload one two three four Bad h = h

-- it is refused
pub other_replied : (kind : ℕ) (payload : List ℕ) (v : LedgerView) → (kind ≢ 1) → (kind ≢ 2) → (kind ≢ 3) → (kind ≢ 4) → IsSoundLedger (state_of v) → Replies kind payload (Some (ToldRefused 1)) v v
other_replied kind payload v one two three four sound =
    record { answers = (Bad, (two, shapeless kind payload one two three four), (refl, refl), tt, sound); leaves = refl; rightly = λ is. absurd (one is) }
