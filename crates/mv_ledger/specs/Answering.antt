-- What the ledger's replies say, and when a call of the ledger answers a record.
--   told reply, told_lines result              what a reply, and what a show or an audit, says; memory that ran out says nothing
--   AnswersRecord kind payload reply old new   the machine's ledger may reply this, the run ends well, and the ledger is sound after it
--   IsReplied kind payload reply old new       the same of what a ledger holds; what has to stay stays, and a bundle gets the right answer
--   Replies kind payload told old new          the same, or nothing is said and the ledger stays as it was
--   RepliesText kind payload result held       the same of the text of a show or an audit, or of its refusal
-- told_ending is a part of these.
use Rattle.std.specs.Prelude.{◌≡◌, ℕ, List, Option, Some, None, Result, Ok, Err, ⊤, string_bytes, String}
use Rattle.std.specs.Global.{Global}
use Rattle.mv_move_types.specs.declared.refusal.Refusal.{Refusal}
use Rattle.mv_move_types.specs.declared.refusal.Refusal.TheVariants.{Phase, Memory as NoMemory}
use Rattle.mv_machine.specs.declared.Ending.{Ending}
use Rattle.mv_machine.specs.declared.Ending.TheVariants.{Returned as HasReturned, Aborted as HasAborted, Exhausted as HasExhausted}
use Rattle.mv_machine.specs.Lines.{Reply as Told, Published as ToldPublished, Refused as ToldRefused, Rejected as ToldRejected}
use Rattle.mv_machine.specs.Lines.{RanToEnd, RanToAbort, RanOut, Told as ToldLines}
use Rattle.mv_machine.specs.Ledger.{LedgerState, Request, Answers}
use Rattle.mv_ledger_state.specs.View.{LedgerView, state_of}
use Rattle.mv_ledger_state.specs.RecordText.{Asks}
use Rattle.mv_lines.specs.LinesView.{LinesView, ended}
use Rattle.mv_ledger.specs.Changes.{Leaves}
use Rattle.mv_ledger_state.specs.Exact.{IsRightly}
use Rattle.mv_ledger_state.specs.Publishing.{Spells}
use Rattle.mv_ledger_state.specs.Accepted.SoundLedger.{IsSoundLedger}
use Rattle.mv_ledger_state.specs.Counting.Headline.{RunsWell}
use Rattle.mv_ledger.specs.declared.Reply.{Reply}
use Rattle.mv_ledger.specs.declared.Reply.TheVariants.{Published, Refused, Rejected, Ran, Memory}

-- what a run's ending says after so many steps
abbrev pub told_ending : Ending → ℕ → Told
told_ending HasReturned steps = RanToEnd steps
told_ending (HasAborted kind number) steps = RanToAbort kind number steps
told_ending (HasExhausted stop) steps = RanOut stop steps

-- what a reply says; want of memory says nothing
abbrev pub told : Reply → Option Told
told (Published count) = Some (ToldPublished count)
told (Refused phase) = Some (ToldRefused phase)
told (Rejected reason) = Some (ToldRejected reason)
told (Ran outcome) = Some (told_ending outcome.ending outcome.steps)
told Memory = None

-- what a show or an audit says: its lines, or that it is refused; want of memory says nothing
abbrev pub told_lines : Result LinesView Refusal → Option Told
told_lines (Ok lines) = Some (ToldLines lines.left)
told_lines (Err (Phase phase)) = Some (ToldRefused phase)
told_lines (Err NoMemory) = None

-- A record of this kind with this payload may be answered by what was told, and the ledger goes on to new; the run that it asks
-- for, if it is admitted, ends as it should; and the ledger is sound then, so that each struct with neither copy nor drop has its
-- tally, what is stored is what was made and not taken apart, and the keys ascend.
abbrev pub AnswersRecord : ℕ → List ℕ → Told → LedgerState → LedgerState → Type 0
AnswersRecord kind payload reply old new =
    (request : Request) × Asks kind payload request × Answers Spells old request reply new × RunsWell old request × IsSoundLedger new

-- The reply answers a record as the machine's ledger may, leaves what it has to leave, and to a publish record it is the
-- right one.
pub record IsReplied (kind : ℕ) (payload : List ℕ) (reply : Told) (old new : LedgerView) : Type 0 where
  pub answers : AnswersRecord kind payload reply (state_of old) (state_of new)
  pub leaves : Leaves reply old new
  pub rightly : kind ≡ 1 → IsRightly (state_of old) payload reply (state_of new)

-- so does what was told; where memory ran out the ledger stays as it was
abbrev pub Replies : ℕ → List ℕ → Option Told → LedgerView → LedgerView → Type 0
Replies kind payload None old new = new ≡ old
Replies kind payload (Some reply) old new = IsReplied kind payload reply old new

-- The text has the lines that answer a record, each with a line end; or the record is refused. Where memory ran out nothing is said.
abbrev pub RepliesText : ℕ → List ℕ → Result (String Global) Refusal → LedgerView → Type 0
RepliesText kind payload (Ok text) held = (lines : List (List ℕ)) × Replies kind payload (Some (ToldLines lines)) held held × (string_bytes text ≡ ended lines)
RepliesText kind payload (Err (Phase phase)) held = Replies kind payload (Some (ToldRefused phase)) held held
RepliesText kind payload (Err NoMemory) held = ⊤
