use Rattle.std.proofs.Common.{◌≡◌, ◌≢◌, ℕ, ◌+◌, List, [], Err, ap, sym, refl, arith, subst, flat_map, inl, inr, ◌∙◌}
use Rattle.std.proofs.KnownBytes.{Appends-kept, Appends-nil, Consumes-nil}
use Rattle.std.proofs.lemmas.Result.{err_from_is_err_and}
use Rattle.moveledger.specs.Outcome.{Begun, BegunByLines, BrokenOff, Finished, StopsAt, Unread}
use Rattle.moveledger.specs.Outcome.{at_a_cut_record, at_the_end, at_the_last_number, being_answered, part_of_a_record, read_and_nothing_done}
use Rattle.moveledger.specs.Records.{Cut, IsText, Whole}
use Rattle.mv_machine.specs.Lines.{Refused, reply_lines, numbered}
use Rattle.moveledger.specs.declared.streaming.EngineError.{EngineError}
use Rattle.moveledger.specs.declared.streaming.EngineError.TheVariants.{Read, Write, Memory}
use Rattle.moveledger.proofs.AfterRecords.{done-all, done-at, done-failed, done-next, done-until}
use Rattle.moveledger.proofs.Steps.{moved, Progress-start, Progress-next, Progress-ends, Progress-full, Progress-cut, Progress-reads}
use Rattle.moveledger.proofs.Steps.{Stops-with, Stops-answered, Stops-by_lines, Stops-cut, StartsWith-whole, error-is}
use Rattle.moveledger.proofs.Taken.{Appends-same}
use Rattle.moveledger.proofs.Endings.{goes-on, stops-on}
use Rattle.moveledger.proofs.streaming.answer_from.Goals as goal

-- a failed write is neither want of memory nor a failed read
other-error : Write ≢ Memory
other-error same = cc

not_read : Write ≢ Read
not_read same = cc

-- the payload is handed on as a slice
is-text : (took : List ℕ) (kind : ℕ) (items now : List ℕ) → now ≡ items → IsText took kind items → IsText took kind now
is-text took kind items now same is = let P : List ℕ → Type 0 = λ l. IsText took kind l in subst P (sym same) is

pub loop-n-init : goal.loop-n-init
loop-n-init g c = (refl, rw c.take_scratch-payload.ensures (Progress-start _ _ _ _), (0, omega arith, refl))

pub returns-in_err-next_with_room-clause-ends : goal.returns-in_err-next_with_room-clause-ends
returns-in_err-next_with_room-clause-ends g c =
    let inv = moved c.in_err-next_with_room.ensures.kept c.loop-n.invariant.1 in
    let p = err_from_is_err_and c.from_residual.result c.from_residual.ensures.1 in
    let e = c.in_err-next_with_room.ensures.err in
    rw (c.loop-n.invariant.0) (stops-on p.0 p.1 (Stops-with inv _ e.1 e.2 (StopsAt Begun) _ _ [] (part_of_a_record e.3 refl refl) (Appends-nil _))
    (λ failed. Stops-with inv _ e.1 e.2 Unread _ _ [] (e.3, refl, refl) (Appends-nil _))
    (λ failed. Stops-with inv _ e.1 e.2 (StopsAt BegunByLines) _ _ [] (part_of_a_record e.3 refl refl) (Appends-nil _)))

pub returns-in_err-next_with_room-clause-until : goal.returns-in_err-next_with_room-clause-until
returns-in_err-next_with_room-clause-until g c =
    let inv = moved c.in_err-next_with_room.ensures.kept c.loop-n.invariant.1 in
    let p = err_from_is_err_and c.from_residual.result c.from_residual.ensures.1 in
    let e = c.in_err-next_with_room.ensures.err in
    rw (p.1) (done-until g.R.Read.remaining g.W.Write.contents g.A.AfterRecord.does _ _ _ _ _ _ _ _ _ _ _ inv c.loop-n.invariant.2 p.0 e.1 e.2 (inl e.3))

pub returns-in-End-clause-ends : goal.returns-in-End-clause-ends
returns-in-End-clause-ends g c =
    let inv = moved c.in_ok-next_with_room.ensures.kept c.loop-n.invariant.1 in
    let e = rw c.in-End.is at c.in_ok-next_with_room.ensures.ok in
    rw (c.loop-n.invariant.0, c.keep_scratch.ensures) (goes-on (Progress-ends inv _ e.0 e.1 e.2.0 e.2.1) (Progress-reads inv _ e.0 e.1 _ (at_the_end inv.count e.2.0 e.2.1)))

pub returns-in-End-clause-done : goal.returns-in-End-clause-done
returns-in-End-clause-done g c =
    let inv = moved c.in_ok-next_with_room.ensures.kept c.loop-n.invariant.1 in
    let e = rw c.in-End.is at c.in_ok-next_with_room.ensures.ok in
    rw (c.loop-n.invariant.0) (done-all g.R.Read.remaining g.W.Write.contents g.A.AfterRecord.does _ _ _ _ _ _ _ _ _ _ _ inv c.loop-n.invariant.2 _ e.0 e.1 (at_the_end inv.count e.2.0 e.2.1))

pub returns-in_err-write_reply-in-Cut-clause-ends : goal.returns-in_err-write_reply-in-Cut-clause-ends
returns-in_err-write_reply-in-Cut-clause-ends g c =
    let inv = moved c.in_ok-next_with_room.ensures.kept c.loop-n.invariant.1 in
    let p = err_from_is_err_and c.from_residual-in_err-write_reply-in-Cut.result c.from_residual-in_err-write_reply-in-Cut.ensures.1 in
    let e = rw c.in-Cut.is at c.in_ok-next_with_room.ensures.ok in
    rw (c.loop-n.invariant.0) (stops-on p.0 p.1 (Stops-cut inv _ e.0 e.1 _ _ e.2 c.in_err-write_reply-in-Cut.ensures.err)
    (λ failed. absurd (rw (error-is _ _ _ _ p.1 p.2 failed) at c.in_err-write_reply-in-Cut.ensures.err))
    (λ failed.
    let same = rw (error-is _ _ _ _ p.1 p.2 failed) at c.in_err-write_reply-in-Cut.ensures.err in
    Stops-with inv _ e.0 e.1 (StopsAt BegunByLines) _ _ [] (read_and_nothing_done Cut e.2 refl refl) (Appends-same _ _ same)))

pub returns-in_err-write_reply-in-Cut-clause-write : goal.returns-in_err-write_reply-in-Cut-clause-write
returns-in_err-write_reply-in-Cut-clause-write g c failed =
    let inv = moved c.in_ok-next_with_room.ensures.kept c.loop-n.invariant.1 in
    let p = err_from_is_err_and c.from_residual-in_err-write_reply-in-Cut.result c.from_residual-in_err-write_reply-in-Cut.ensures.1 in
    let e = rw c.in-Cut.is at c.in_ok-next_with_room.ensures.ok in
    let w = rw (error-is _ _ _ _ p.1 p.2 failed) at c.in_err-write_reply-in-Cut.ensures.err in
    rw (c.loop-n.invariant.0) (inl (Stops-with inv _ e.0 e.1 BrokenOff _ _ w.0 (Cut, reply_lines (Refused 1), e.2, (refl, refl), w.1, w.2) w.3))

pub returns-in_err-write_reply-in-Cut-clause-until : goal.returns-in_err-write_reply-in-Cut-clause-until
returns-in_err-write_reply-in-Cut-clause-until g c =
    let inv = moved c.in_ok-next_with_room.ensures.kept c.loop-n.invariant.1 in
    let p = err_from_is_err_and c.from_residual-in_err-write_reply-in-Cut.result c.from_residual-in_err-write_reply-in-Cut.ensures.1 in
    let e = rw c.in-Cut.is at c.in_ok-next_with_room.ensures.ok in
    let other : p.0 ≢ Read = λ same. rw (sym p.2 ∙ same) at c.in_err-write_reply-in-Cut.ensures.err in
    rw (p.1) (done-until g.R.Read.remaining g.W.Write.contents g.A.AfterRecord.does _ _ _ _ _ _ _ _ _ _ _ inv c.loop-n.invariant.2 p.0 e.0 e.1 (inr (other, Cut, e.2)))

pub returns-in-Cut-clause-ends : goal.returns-in-Cut-clause-ends
returns-in-Cut-clause-ends g c =
    let inv = moved c.in_ok-next_with_room.ensures.kept c.loop-n.invariant.1 in
    let e = rw c.in-Cut.is at c.in_ok-next_with_room.ensures.ok in
    goes-on (Progress-cut inv _ e.0 e.1 _ e.2 c.in_ok-write_reply-in-Cut.ensures.ok) (Progress-reads inv _ e.0 e.1 _ (at_a_cut_record (ap (λ m. m + 1) inv.count) e.2))

pub returns-in-Cut-clause-done : goal.returns-in-Cut-clause-done
returns-in-Cut-clause-done g c =
    let inv = moved c.in_ok-next_with_room.ensures.kept c.loop-n.invariant.1 in
    let e = rw c.in-Cut.is at c.in_ok-next_with_room.ensures.ok in
    done-all g.R.Read.remaining g.W.Write.contents g.A.AfterRecord.does _ _ _ _ _ _ _ _ _ _ _ inv c.loop-n.invariant.2 _ e.0 e.1 (at_a_cut_record (ap (λ m. m + 1) inv.count) e.2)

pub returns-in_err-answer-in-Record-clause-ends : goal.returns-in_err-answer-in-Record-clause-ends
returns-in_err-answer-in-Record-clause-ends g c =
    let inv = moved c.in_ok-next_with_room.ensures.kept c.loop-n.invariant.1 in
    let p = err_from_is_err_and c.from_residual-in_err-answer-in-Record.result c.from_residual-in_err-answer-in-Record.ensures.1 in
    let e = rw c.in-Record.is at c.in_ok-next_with_room.ensures.ok in
    let is = is-text e.0 c.in-Record.kind _ _ c.deref.ensures.value e.2 in
    rw (c.loop-n.invariant.0) (stops-on p.0 p.1 (Stops-answered inv _ e.0 e.1 _ _ c.in-Record.kind _ _ is c.in_err-answer-in-Record.ensures.err)
    (λ failed. absurd (rw (error-is _ _ _ _ p.1 p.2 failed) at c.in_err-answer-in-Record.ensures.err))
    (λ failed. Stops-by_lines inv _ e.0 e.1 _ _ c.in-Record.kind _ is (rw (error-is _ _ _ _ p.1 p.2 failed) at c.in_err-answer-in-Record.ensures.err)))

pub returns-in_err-answer-in-Record-clause-write : goal.returns-in_err-answer-in-Record-clause-write
returns-in_err-answer-in-Record-clause-write g c failed =
    let inv = moved c.in_ok-next_with_room.ensures.kept c.loop-n.invariant.1 in
    let p = err_from_is_err_and c.from_residual-in_err-answer-in-Record.result c.from_residual-in_err-answer-in-Record.ensures.1 in
    let e = rw c.in-Record.is at c.in_ok-next_with_room.ensures.ok in
    let is = is-text e.0 c.in-Record.kind _ _ c.deref.ensures.value e.2 in
    let w = rw (error-is _ _ _ _ p.1 p.2 failed) at c.in_err-answer-in-Record.ensures.err in
    rw (c.loop-n.invariant.0) (inl (Stops-with inv _ e.0 e.1 BrokenOff _ _ w.1.1.0 (Whole c.in-Record.kind c.deref.result.now, w.0, is, w.1.0, w.1.1.1, w.1.1.2) w.1.1.3))

pub returns-in_err-answer-in-Record-clause-until : goal.returns-in_err-answer-in-Record-clause-until
returns-in_err-answer-in-Record-clause-until g c =
    let inv = moved c.in_ok-next_with_room.ensures.kept c.loop-n.invariant.1 in
    let p = err_from_is_err_and c.from_residual-in_err-answer-in-Record.result c.from_residual-in_err-answer-in-Record.ensures.1 in
    let e = rw c.in-Record.is at c.in_ok-next_with_room.ensures.ok in
    let other : p.0 ≢ Read = λ same. rw (sym p.2 ∙ same) at c.in_err-answer-in-Record.ensures.err in
    rw (p.1) (done-until g.R.Read.remaining g.W.Write.contents g.A.AfterRecord.does _ _ _ _ _ _ _ _ _ _ _ inv c.loop-n.invariant.2 p.0 e.0 e.1 (inr (other, Whole c.in-Record.kind c.next_with_room.new.payload.items, e.2)))

pub returns-in_err-answered-in-Record-clause-ends : goal.returns-in_err-answered-in-Record-clause-ends
returns-in_err-answered-in-Record-clause-ends g c =
    let inv = moved c.in_ok-next_with_room.ensures.kept c.loop-n.invariant.1 in
    let p = err_from_is_err_and c.from_residual-in_err-answered-in-Record.result c.from_residual-in_err-answered-in-Record.ensures.1 in
    let e = rw c.in-Record.is at c.in_ok-next_with_room.ensures.ok in
    let is = is-text e.0 c.in-Record.kind _ _ c.deref.ensures.value e.2 in
    let a = c.in_ok-answer-in-Record.ensures.ok in
    let text : List ℕ = flat_map (numbered (c.loop-n.n + 1)) a.0 in
    let written = Appends-kept _ _ _ text a.1.1 c.in_err-answered-in-Record.ensures.kept in
    rw (c.loop-n.invariant.0) (stops-on p.0 p.1 (Stops-with inv _ e.0 e.1 (StopsAt Begun) _ _ text (being_answered (Whole c.in-Record.kind c.deref.result.now, a.0, is, a.1.0, StartsWith-whole text)) written)
    (λ failed. absurd (not_read (sym c.in_err-answered-in-Record.ensures.err ∙ error-is _ _ _ _ p.1 p.2 failed)))
    (λ failed. absurd (other-error (sym c.in_err-answered-in-Record.ensures.err ∙ error-is _ _ _ _ p.1 p.2 failed))))

pub returns-in_err-answered-in-Record-clause-write : goal.returns-in_err-answered-in-Record-clause-write
returns-in_err-answered-in-Record-clause-write g c failed =
    let inv = moved c.in_ok-next_with_room.ensures.kept c.loop-n.invariant.1 in
    let p = err_from_is_err_and c.from_residual-in_err-answered-in-Record.result c.from_residual-in_err-answered-in-Record.ensures.1 in
    let e = rw c.in-Record.is at c.in_ok-next_with_room.ensures.ok in
    let is = is-text e.0 c.in-Record.kind _ _ c.deref.ensures.value e.2 in
    let a = c.in_ok-answer-in-Record.ensures.ok in
    let text : List ℕ = flat_map (numbered (c.loop-n.n + 1)) a.0 in
    let written = Appends-kept _ _ _ text a.1.1 c.in_err-answered-in-Record.ensures.kept in
    let D : EngineError → Type 0 = λ z. g.A.AfterRecord.does (c.loop-n.n + 1) c.next_with_room.new.reader c.loop-n.after c.answer.new.writer (Err z) c.answered.new.self c.answered.new.writer in
    let now = done-at g.R.Read.remaining g.W.Write.contents g.A.AfterRecord.does _ _ _ _ _ c.loop-n.after _ _ c.next_with_room.new.reader c.answer.new.writer c.answered.new.writer c.answer.new.ledger (Progress-next inv _ e.0 e.1 _ _ c.in-Record.kind _ a.0 is a.1.0 a.1.1) (subst D (error-is _ _ _ _ p.1 p.2 failed) c.in_err-answered-in-Record.ensures.done) in
    rw (c.loop-n.invariant.0) (inr (Stops-with inv _ e.0 e.1 Finished _ _ text (Whole c.in-Record.kind c.deref.result.now, a.0, is, a.1.0, refl) written, (c.loop-n.n + 1, c.loop-n.after, now)))

pub returns-in_err-answered-in-Record-clause-until : goal.returns-in_err-answered-in-Record-clause-until
returns-in_err-answered-in-Record-clause-until g c =
    let inv = moved c.in_ok-next_with_room.ensures.kept c.loop-n.invariant.1 in
    let p = err_from_is_err_and c.from_residual-in_err-answered-in-Record.result c.from_residual-in_err-answered-in-Record.ensures.1 in
    let e = rw c.in-Record.is at c.in_ok-next_with_room.ensures.ok in
    let is = is-text e.0 c.in-Record.kind _ _ c.deref.ensures.value e.2 in
    let a = c.in_ok-answer-in-Record.ensures.ok in
    let D : EngineError → Type 0 = λ z. g.A.AfterRecord.does (c.loop-n.n + 1) c.next_with_room.new.reader c.loop-n.after c.answer.new.writer (Err z) c.answered.new.self c.answered.new.writer in
    let now = done-at g.R.Read.remaining g.W.Write.contents g.A.AfterRecord.does _ _ _ _ _ c.loop-n.after _ _ c.next_with_room.new.reader c.answer.new.writer c.answered.new.writer c.answer.new.ledger (Progress-next inv _ e.0 e.1 _ _ c.in-Record.kind _ a.0 is a.1.0 a.1.1) (subst D (sym p.2) c.in_err-answered-in-Record.ensures.done) in
    rw (p.1) (done-failed g.R.Read.remaining g.W.Write.contents g.A.AfterRecord.does _ _ _ _ _ _ _ _ _ _ _ inv c.loop-n.invariant.2 p.0 e.0 _ e.1 now)

pub loop-n-preserved : goal.loop-n-preserved
loop-n-preserved g c =
    let inv = moved c.in_ok-next_with_room.ensures.kept c.loop-n.invariant.1 in
    let e = rw c.in-Record.is at c.in_ok-next_with_room.ensures.ok in
    let is = is-text e.0 c.in-Record.kind _ _ c.deref.ensures.value e.2 in
    let a = c.in_ok-answer-in-Record.ensures.ok in
    let text : List ℕ = flat_map (numbered (c.loop-n.n + 1)) a.0 in
    let written = Appends-kept _ _ _ text a.1.1 c.in_ok-answered-in-Record.ensures.kept in
    let now = done-at g.R.Read.remaining g.W.Write.contents g.A.AfterRecord.does _ _ _ _ _ c.loop-n.after _ _ c.next_with_room.new.reader c.answer.new.writer c.answered.new.writer c.answer.new.ledger (Progress-next inv _ e.0 e.1 _ _ c.in-Record.kind _ a.0 is a.1.0 a.1.1) c.in_ok-answered-in-Record.ensures.done in
    (refl, Progress-next inv _ e.0 e.1 _ _ c.in-Record.kind _ a.0 is a.1.0 written, done-next g.R.Read.remaining g.W.Write.contents g.A.AfterRecord.does _ _ _ _ c.loop-n.n _ _ _ c.loop-n.invariant.2 now)

pub returns-clause-ends : goal.returns-clause-ends
returns-clause-ends g c =
    rw (c.loop-n.invariant.0) (goes-on (Progress-full c.loop-n.invariant.1 (omega arith)) (Progress-reads c.loop-n.invariant.1 _ [] (Consumes-nil _) _ (at_the_last_number c.loop-n.invariant.1.count refl (omega arith))))

pub returns-clause-done : goal.returns-clause-done
returns-clause-done g c =
    rw (c.loop-n.invariant.0) (done-all g.R.Read.remaining g.W.Write.contents g.A.AfterRecord.does _ _ _ _ _ _ _ _ _ _ _ c.loop-n.invariant.1 c.loop-n.invariant.2 _ [] (Consumes-nil _) (at_the_last_number c.loop-n.invariant.1.count refl (omega arith)))
