use Rattle.mv_ledger.proofs.Common.{◌∙◌, ap, subst, sym, List, ℕ, LedgerView, all_of, view_of}
use Rattle.mv_ledger.specs.Marks.{AreLedgers, held_at, held_marks, marked}
use Rattle.mv_ledger.proofs.Marks.{are-open, was-open}
use Rattle.mv_ledger.proofs.BlockWise.{closed-holds, closed-marks, kept-holds, kept-is, no-items, no-runs}
use Rattle.mv_ledger.proofs.Ledger.commit.Goals as goal

pub invariant_of-self : goal.invariant_of-self
invariant_of-self c =
    let p = c.self.inside.published in
    let q = c.keep.new.self in
    let s = c.self.inside.storage in
    let t = c.keep-in-Some.new.self in
    let us = c.pop.new.self.items in
    let some = are-open p.marks s.marks us c.in-Some._runs (subst (AreLedgers p.marks s.marks) c.in-Some.ensures.items c.self.invariant.1) in
    let first = was-open c.keep.result c.keep.ensures.closed c.keep.ensures.none (λ none. some.0 none.0) in
    let second = was-open c.keep-in-Some.result c.keep-in-Some.ensures.closed c.keep-in-Some.ensures.none (λ none. some.1 none.0) in (
      kept-holds p q s.committed t.committed c.self.inside.runs c.keep.ensures.modules c.keep.ensures.tallies c.keep-in-Some.ensures.committed c.self.invariant.0,
      (closed-holds p.marks q.marks first.0 s.marks t.marks second.0 c.self.inside.run_marks.items us c.in-Some._runs first.1 second.1 c.in-Some.ensures.items c.self.invariant.1).1,
    )

pub returns-in-Some-clause-done : goal.returns-in-Some-clause-done
returns-in-Some-clause-done c = λ done.
    let p = c.self.inside.published in
    let q = c.keep.new.self in
    let s = c.self.inside.storage in
    let t = c.keep-in-Some.new.self in
    let rs = c.self.inside.run_marks.items in
    let us = c.pop.new.self.items in
    let some = are-open p.marks s.marks us c.in-Some._runs (subst (AreLedgers p.marks s.marks) c.in-Some.ensures.items c.self.invariant.1) in
    let first = was-open c.keep.result c.keep.ensures.closed c.keep.ensures.none (λ none. some.0 none.0) in
    let second = was-open c.keep-in-Some.result c.keep-in-Some.ensures.closed c.keep-in-Some.ensures.none (λ none. some.1 none.0) in (
      held_at first.0 second.0 c.in-Some._runs,
      sym c.self.view_is
          ∙ kept-is p q s.committed t.committed c.self.inside.runs c.keep.ensures.modules c.keep.ensures.tallies c.keep-in-Some.ensures.committed (held_marks p.marks s.marks rs) _
          (closed-marks p.marks q.marks first.0 s.marks t.marks second.0 rs us c.in-Some._runs first.1 second.1 c.in-Some.ensures.items c.self.invariant.1),
    )

pub returns-in-None-clause-none : goal.returns-in-None-clause-none
returns-in-None-clause-none c = λ done.
    let p = c.self.inside.published in
    let s = c.self.inside.storage in
    let now = view_of p.modules s.committed (all_of p.tallies) c.self.inside.runs in
    let was = no-items c.self.inside.run_marks.items (sym c.self.inside.run_marks.ok.0 ∙ c.in-None.ensures.cases.0) in
    let is = no-items c.pop.new.self.items (sym c.pop.new.self.ok.0 ∙ c.in-None.ensures.cases.1) in (
      sym (ap (λ (v : LedgerView). v.marks) c.self.view_is) ∙ ap (held_marks p.marks s.marks) was ∙ no-runs p.marks s.marks,
      ap (λ (rs : List ℕ). marked now (held_marks p.marks s.marks rs)) (is ∙ sym was) ∙ c.self.view_is,
    )
