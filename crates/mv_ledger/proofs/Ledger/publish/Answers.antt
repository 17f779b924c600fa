use Rattle.mv_ledger.proofs.Common.{List, refl, sym, ap, subst, Refusal, Replies, told, IsRefusedOver, LedgerView, PublishedView, all_of, view_of}
use Rattle.mv_ledger_state.specs.View.{HeldView}
use Rattle.mv_ledger.specs.Marks.{held_marks, marked}
use Rattle.mv_ledger.proofs.Ledgers.{ledger-published}
use Rattle.mv_ledger.proofs.Marks.{ledgers-kept, marks-kept, replies-marked}
use Rattle.mv_ledger_state.proofs.Bundles.Staying.{stored-stays}
use Rattle.mv_ledger.proofs.Replying.{published_replies, refused_replies, nothing_replies}
use Rattle.mv_ledger.proofs.Ledger.publish.Goals as goal
use Rattle.mv_ledger.proofs.Ledger.publish.Goals.{in-Ok, in-Err-Phase, in-Err-Memory}

pub invariant_of-self : goal.invariant_of-self
invariant_of-self c = (
  ledger-published c.publish.result c.self.inside.published c.publish.new.self c.args.payload.now c.self.inside.storage.committed c.self.inside.runs c.publish.ensures.accepted
      c.publish.ensures.tallied c.publish.ensures.whole c.publish.ensures.kept c.self.invariant.0,
  ledgers-kept c.self.inside.published.marks c.publish.new.self.marks c.self.inside.storage.marks c.self.inside.storage.marks c.self.inside.run_marks.items c.publish.ensures.marks refl c.self.invariant.1,
)

pub returns : goal.returns
returns c =
    let old = c.self.inside.published in
    let new = c.publish.new.self in
    let payload = c.args.payload.now in
    let stored = c.self.inside.storage.committed in
    let runs = c.self.inside.runs in
    let ss = c.self.inside.storage.marks in
    let rs = c.self.inside.run_marks.items in
    let marks = held_marks old.marks ss rs in
    let first = view_of old.modules stored (all_of old.tallies) runs in
    let second = view_of new.modules stored (all_of new.tallies) runs in
    subst (λ (v : LedgerView). Replies 1 payload (told c.match-publish.result) v (marked second (held_marks new.marks ss rs))) c.self.view_is
    (subst (λ (ms : List HeldView). Replies 1 payload (told c.match-publish.result) (marked first marks) (marked second ms))
    (sym (marks-kept old.marks new.marks ss ss rs c.publish.ensures.marks refl))
    (replies-marked 1 payload (told c.match-publish.result) first second marks
    (elim c.match-publish.branch [
      | in-Ok w ↦
          rw w.result-is
          (published_replies old.modules new.modules payload stored (all_of old.tallies) (all_of new.tallies) runs w.in-Ok.count w.in-Ok.ensures.accepted
          (stored-stays w.in-Ok.count old.modules new.modules payload stored c.self.invariant.0.sound.store w.in-Ok.ensures.whole w.in-Ok.ensures.accepted c.self.invariant.0.fine)
          w.in-Ok.ensures.tallied w.in-Ok.ensures.whole c.self.invariant.0.sound)
      | in-Err-Phase w ↦
          rw w.result-is
          (refused_replies old.modules new.modules payload stored (all_of old.tallies) (all_of new.tallies) runs w.in-Err-Phase.phase
          (ap (λ (v : PublishedView). v.modules) w.in-Err-Phase.ensures.kept) (ap (λ (v : PublishedView). all_of v.tallies) w.in-Err-Phase.ensures.kept)
          (subst (λ (e : Refusal). IsRefusedOver old.modules payload e) w.in-Err-Phase.field-0-is w.in-Err-Phase.ensures.refused) c.self.invariant.0.sound)
      | in-Err-Memory w ↦
          rw w.result-is
          (nothing_replies old.modules new.modules payload stored (all_of old.tallies) (all_of new.tallies) runs 1
          (ap (λ (v : PublishedView). v.modules) w.in-Err-Memory.ensures.kept) (ap (λ (v : PublishedView). all_of v.tallies) w.in-Err-Memory.ensures.kept))
    ])))
