use Rattle.mv_ledger.proofs.Common.{◌∙◌, ap, subst, sym, List, ℕ, LedgerView, all_of, view_of}
use Rattle.mv_ledger.specs.Marks.{AreLedgers, held_marks, marked}
use Rattle.mv_ledger_state.specs.View.{held_now}
use Rattle.mv_ledger.proofs.Marks.{are-open, was-open}
use Rattle.mv_ledger.proofs.BlockWise.{closed-holds, closed-marks, no-items, no-runs}
use Rattle.mv_ledger.proofs.Ledger.rollback.Goals as goal

pub invariant_of-self : goal.invariant_of-self
invariant_of-self c =
    let p = c.self.inside.published in
    let ss = c.self.inside.storage.marks in
    let rs = c.self.inside.run_marks.items in
    let us = c.pop.new.self.items in
    let some = are-open p.marks ss us c.in-Some.runs (subst (AreLedgers p.marks ss) c.in-Some.ensures.items c.self.invariant.1) in
    closed-holds p.marks c.rollback.new.self.marks (held_now c.rollback.new.self) ss c.rollback-in-Some.new.self.marks c.rollback-in-Some.new.self.committed rs us c.in-Some.runs
    (was-open c.rollback.result c.rollback.ensures.back c.rollback.ensures.none (λ none. some.0 none.0))
    (was-open c.rollback-in-Some.result c.rollback-in-Some.ensures.back c.rollback-in-Some.ensures.none (λ none. some.1 none.0))
    c.in-Some.ensures.items c.self.invariant.1

pub returns-in-Some-clause-back : goal.returns-in-Some-clause-back
returns-in-Some-clause-back c = λ done.
    let p = c.self.inside.published in
    let ss = c.self.inside.storage.marks in
    let rs = c.self.inside.run_marks.items in
    let us = c.pop.new.self.items in
    let some = are-open p.marks ss us c.in-Some.runs (subst (AreLedgers p.marks ss) c.in-Some.ensures.items c.self.invariant.1) in
    sym (ap (λ (v : LedgerView). v.marks) c.self.view_is)
    ∙ closed-marks p.marks c.rollback.new.self.marks (held_now c.rollback.new.self) ss c.rollback-in-Some.new.self.marks c.rollback-in-Some.new.self.committed rs us c.in-Some.runs
    (was-open c.rollback.result c.rollback.ensures.back c.rollback.ensures.none (λ none. some.0 none.0))
    (was-open c.rollback-in-Some.result c.rollback-in-Some.ensures.back c.rollback-in-Some.ensures.none (λ none. some.1 none.0))
    c.in-Some.ensures.items c.self.invariant.1

pub returns-in-None-clause-none : goal.returns-in-None-clause-none
returns-in-None-clause-none c = λ done.
    let p = c.self.inside.published in
    let s = c.self.inside.storage in
    let now = view_of p.modules s.committed (all_of p.tallies) c.self.inside.runs in
    let was = no-items c.self.inside.run_marks.items (sym c.self.inside.run_marks.ok.0 ∙ c.in-None.ensures.cases.0) in
    let is = no-items c.pop.new.self.items (sym c.pop.new.self.ok.0 ∙ c.in-None.ensures.cases.1) in (
      sym (ap (λ (v : LedgerView). v.marks) c.self.view_is) ∙ ap (held_marks p.marks s.marks) was ∙ no-runs p.marks s.marks,
      ap (λ (rs : List ℕ). marked now (held_marks p.marks s.marks rs)) (is ∙ sym was) ∙ c.self.view_is,
    )
