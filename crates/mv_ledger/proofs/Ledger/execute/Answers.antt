use Rattle.mv_ledger.proofs.Common.{◌+◌, ◌∙◌, Err, List, Ok, Some, ap, inl, inr, subst, sym, ToldRejected, Replies, told, request_of, IsShapeless, IsAdmitted, LedgerView, PublishedModule, PublishedView}
use Rattle.mv_ledger.proofs.Common.{all_of, view_of, Barred, BarredRejected}
use Rattle.mv_ledger.specs.Changes.{IsKept}
use Rattle.mv_ledger_state.specs.View.{HeldView}
use Rattle.mv_ledger.specs.Marks.{held_marks, marked}
use Rattle.mv_ledger.proofs.Ledgers.{ledger-run, ledger-kept}
use Rattle.mv_ledger.proofs.Marks.{ledgers-kept, marks-kept, replies-marked}
use Rattle.mv_ledger.proofs.Replying.{bad_run_replies, rejected_replies, had_sound, had_replies, unchanged, untold_replies}
use Rattle.mv_ledger.proofs.Ledger.execute.Goals as goal
use Rattle.mv_ledger.proofs.Ledger.execute.Goals.{In-Ok-admitted}
use Rattle.mv_ledger_state.proofs.Phases.{phase-no-memory}

-- the run is admitted to the ledger's modules
admitted-to : (c : In-Ok-admitted) → IsAdmitted c.self.inside.published.modules c.self.inside.runs (request_of c.in-Ok.asked) (Ok c.in-Ok-admitted.call)
admitted-to c = subst (λ (p : PublishedView). IsAdmitted p.modules c.self.inside.runs (request_of c.in-Ok.asked) (Ok c.in-Ok-admitted.call)) c.published.view_is c.in-Ok-admitted.ensures.admitted

pub invariant_of-self-then-is_told : goal.invariant_of-self-then-is_told
invariant_of-self-then-is_told c =
    let old = c.self.inside.published in
    let new = c.execute-reply.new.published in
    let stored = c.self.inside.storage.committed in
    let left = c.execute-reply.new.storage.committed in (
      ledger-run old.modules new.modules stored left (all_of old.tallies) (all_of new.tallies) c.self.inside.runs c.execute-reply.ensures.modules c.execute-reply.ensures.stored
          (c.execute-reply.ensures.small c.self.inside.runs) c.in-Ok-admitted.ensures.runs
          (had_sound old.modules c.args.payload.now stored (all_of old.tallies) c.self.inside.runs (request_of c.in-Ok.asked) c.in-Ok.ensures.ok c.self.invariant.0.sound
          c.in-Ok-admitted.call (admitted-to (goal.at.invariant_of-self-then-is_told c).In-Ok-admitted) left (all_of new.tallies) (told c.execute-reply.result)
          (sym c.is_told.ensures ∙ c.if-is_told.true) c.execute-reply.ensures.applied) c.self.invariant.0,
      ledgers-kept old.marks new.marks c.self.inside.storage.marks c.execute-reply.new.storage.marks c.self.inside.run_marks.items c.execute-reply.ensures.published_marks
          c.execute-reply.ensures.storage_marks c.self.invariant.1,
    )

pub invariant_of-self-else-is_told : goal.invariant_of-self-else-is_told
invariant_of-self-else-is_told c =
    let old = c.self.inside.published in
    let new = c.execute-reply.new.published in
    let kept : IsKept c.self.inside.storage.committed c.execute-reply.new.storage.committed (all_of old.tallies) (all_of new.tallies) =
    unchanged (told c.execute-reply.result) _ _ _ _ (sym c.is_told.ensures ∙ c.if-is_told.false) c.execute-reply.ensures.kept in (
      ledger-kept old.modules new.modules c.self.inside.storage.committed c.execute-reply.new.storage.committed (all_of old.tallies) (all_of new.tallies) c.self.inside.runs
          c.execute-reply.ensures.modules kept.0 kept.1 c.self.invariant.0,
      ledgers-kept old.marks new.marks c.self.inside.storage.marks c.execute-reply.new.storage.marks c.self.inside.run_marks.items c.execute-reply.ensures.published_marks
          c.execute-reply.ensures.storage_marks c.self.invariant.1,
    )

pub returns-then-is_told : goal.returns-then-is_told
returns-then-is_told c =
    let old = c.self.inside.published in
    let new = c.execute-reply.new.published in
    let payload = c.args.payload.now in
    let stored = c.self.inside.storage.committed in
    let left = c.execute-reply.new.storage.committed in
    let runs = c.self.inside.runs in
    let ss = c.self.inside.storage.marks in
    let ts = c.execute-reply.new.storage.marks in
    let rs = c.self.inside.run_marks.items in
    let marks = held_marks old.marks ss rs in
    let reply = told c.execute-reply.result in
    let first = view_of old.modules stored (all_of old.tallies) runs in
    let holds = λ (ps : List PublishedModule) (ms : List HeldView). marked (view_of ps left (all_of new.tallies) (runs + 1)) ms in
    let same = marks-kept old.marks new.marks ss ts rs c.execute-reply.ensures.published_marks c.execute-reply.ensures.storage_marks in
    subst (λ (v : LedgerView). Replies 2 payload reply v (holds new.modules (held_marks new.marks ts rs))) c.self.view_is
    (subst (Replies 2 payload reply (marked first marks)) (sym (ap (λ (ps : List PublishedModule). holds ps (held_marks new.marks ts rs)) c.execute-reply.ensures.modules ∙ ap (holds old.modules) same))
    (replies-marked 2 payload reply first (view_of old.modules left (all_of new.tallies) (runs + 1)) marks
    (had_replies old.modules payload stored (all_of old.tallies) runs (request_of c.in-Ok.asked) c.in-Ok.ensures.ok c.self.invariant.0.sound c.in-Ok-admitted.call
    (admitted-to (goal.at.returns-then-is_told c).In-Ok-admitted) left (all_of new.tallies) reply (sym c.is_told.ensures ∙ c.if-is_told.true) c.execute-reply.ensures.applied c.execute-reply.ensures.kept)))

pub returns-else-is_told : goal.returns-else-is_told
returns-else-is_told c =
    let old = c.self.inside.published in
    let new = c.execute-reply.new.published in
    let payload = c.args.payload.now in
    let stored = c.self.inside.storage.committed in
    let left = c.execute-reply.new.storage.committed in
    let runs = c.self.inside.runs in
    let ss = c.self.inside.storage.marks in
    let ts = c.execute-reply.new.storage.marks in
    let rs = c.self.inside.run_marks.items in
    let marks = held_marks old.marks ss rs in
    let reply = told c.execute-reply.result in
    let first = view_of old.modules stored (all_of old.tallies) runs in
    let holds = λ (ps : List PublishedModule) (ms : List HeldView). marked (view_of ps left (all_of new.tallies) runs) ms in
    let same = marks-kept old.marks new.marks ss ts rs c.execute-reply.ensures.published_marks c.execute-reply.ensures.storage_marks in
    subst (λ (v : LedgerView). Replies 2 payload reply v (holds new.modules (held_marks new.marks ts rs))) c.self.view_is
    (subst (Replies 2 payload reply (marked first marks)) (sym (ap (λ (ps : List PublishedModule). holds ps (held_marks new.marks ts rs)) c.execute-reply.ensures.modules ∙ ap (holds old.modules) same))
    (replies-marked 2 payload reply first (view_of old.modules left (all_of new.tallies) runs) marks
    (untold_replies old.modules payload stored left (all_of old.tallies) (all_of new.tallies) runs reply (sym c.is_told.ensures ∙ c.if-is_told.false) c.execute-reply.ensures.kept)))

pub returns-in-Err-Rejected : goal.returns-in-Err-Rejected
returns-in-Err-Rejected c =
    let old = c.self.inside.published in
    let runs = c.self.inside.runs in
    let r = request_of c.in-Ok.asked in
    let marks = held_marks old.marks c.self.inside.storage.marks c.self.inside.run_marks.items in
    let held = view_of old.modules c.self.inside.storage.committed (all_of old.tallies) runs in
    rw c.in-Err-Rejected.field-0-is (subst (λ (v : LedgerView). Replies 2 c.args.payload.now (Some (ToldRejected c.in-Err-Rejected.reason)) v (marked held marks)) c.self.view_is
    (replies-marked 2 c.args.payload.now (Some (ToldRejected c.in-Err-Rejected.reason)) held held marks
    (rejected_replies old.modules c.args.payload.now c.self.inside.storage.committed (all_of old.tallies) runs r c.in-Ok.ensures.ok c.self.invariant.0.sound c.in-Err-Rejected.reason
    (subst (λ (p : PublishedView). IsAdmitted p.modules runs r (Err (BarredRejected c.in-Err-Rejected.reason))) c.published.view_is
    (subst (λ (b : Barred). IsAdmitted c.published.inside.store runs r (Err b)) c.in-Err-Rejected.field-0-is c.in-Err-Rejected.ensures.admitted)))))

pub returns-in-Err-Phase : goal.returns-in-Err-Phase
returns-in-Err-Phase c =
    let none : IsShapeless 2 c.args.payload.now = elim c.in-Err-Phase.ensures.errors
    [ inl p ↦ c.in-Err-Phase.ensures.refused (ap Err p) | inr q ↦ absurd (phase-no-memory _ _ c.in-Err-Phase.field-0-is q) ] in
    let old = c.self.inside.published in
    let held = marked (view_of old.modules c.self.inside.storage.committed (all_of old.tallies) c.self.inside.runs) (held_marks old.marks c.self.inside.storage.marks c.self.inside.run_marks.items) in
    subst (λ (v : LedgerView). Replies 2 c.args.payload.now (Some (ToldRejected 1)) v held) c.self.view_is (bad_run_replies c.args.payload.now held none c.self.invariant.0.sound)
