-- What was held where open blocks were begun stays, whatever records are answered.
use Rattle.std.proofs.Common.{◌≡◌, ℕ, ◌+◌, List, [], ◌∷◌, ap, ◌∙◌, sym}
use Rattle.mv_machine.specs.Lines.{Reply, Published, Refused, Rejected, RanToEnd, RanToAbort, RanOut, Told}
use Rattle.mv_ledger_state.specs.View.{LedgerView, HeldView, held_of}
use Rattle.mv_ledger.specs.Changes.{Leaves}
use Rattle.mv_ledger.proofs.Marks.{ends-same}
use Rattle.moveledger.specs.Records.{Record, Whole, Cut}
use Rattle.moveledger.specs.Headline.{Step}
use Rattle.moveledger.specs.Outcome.{Begun, StopsAt, part_of_a_record, read_and_nothing_done, being_answered}
use Rattle.moveledger.specs.Blocks.{EachReportKeepsMarks, EachStopKeepsMarks, EachBlockComesBack}

-- a reply leaves it
reply-marks : (reply : Reply) (old new : LedgerView) → Leaves reply old new → new.marks ≡ old.marks
reply-marks (Published n) old new l = l.2
reply-marks (Refused phase) old new l = ap (λ (v : LedgerView). v.marks) l
reply-marks (Rejected reason) old new l = ap (λ (v : LedgerView). v.marks) l
reply-marks (RanToEnd steps) old new l = l
reply-marks (RanToAbort kind n steps) old new l = ap (λ (v : LedgerView). v.marks) l
reply-marks (RanOut stop steps) old new l = ap (λ (v : LedgerView). v.marks) l
reply-marks (Told lines) old new l = ap (λ (v : LedgerView). v.marks) l

step-marks : (old : LedgerView) (r : Record) (lines : List (List ℕ)) (new : LedgerView) → Step old r lines new → new.marks ≡ old.marks
step-marks old Cut lines new s = ap (λ (v : LedgerView). v.marks) s.1
step-marks old (Whole kind payload) lines new s = reply-marks s.0 old new s.1.0.leaves

pub report-marks : EachReportKeepsMarks
report-marks n old new [] text h = ap (λ (v : LedgerView). v.marks) h.1
report-marks n old new (r ∷ rs) text h = report-marks (n + 1) h.1 new rs h.2 h.5 ∙ step-marks old r h.0 h.1 h.3

last-marks : (n : ℕ) (took left : List ℕ) (old new : LedgerView) (part : List ℕ) → StopsAt Begun n took left old new part → new.marks ≡ old.marks
last-marks n took left old new part (part_of_a_record u same none) = ap (λ (v : LedgerView). v.marks) same
last-marks n took left old new part (read_and_nothing_done r t same none) = ap (λ (v : LedgerView). v.marks) same
last-marks n took left old new part (being_answered b) = step-marks old b.0 b.1 new b.3

pub stop-marks : EachStopKeepsMarks
stop-marks before given gives held holds old new n s = last-marks _ s.took _ s.mid new s.part s.last ∙ report-marks (before + 1) old s.mid s.records s.text s.report

-- ---- a block that is taken back

-- a ledger is what it holds, and what it held at its marks
abbrev holding : HeldView → List HeldView → LedgerView
holding h marks = record { published = h.published; stored = h.stored; tallies = h.tallies; runs = h.runs; marks = marks }

same-ledger : (v w : LedgerView) → held_of v ≡ held_of w → v.marks ≡ w.marks → v ≡ w
same-ledger v w h m = ap (λ (x : HeldView). holding x v.marks) h ∙ ap (holding (held_of w)) m

pub block-back : EachBlockComesBack
block-back n old mid new records text h back =
    let same = ends-same new.marks old.marks (held_of new) (held_of old) (sym back ∙ report-marks n _ mid records text h) in
    same-ledger new old same.1 same.0
