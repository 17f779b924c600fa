use Rattle.mv_ledger.proofs.Common.{◌∙◌, ◌≡◌, None, Some, ap, ap₂, length, sym, LedgerView, ℕ}
use Rattle.std.proofs.Common.{drop}
use Rattle.mv_ledger.proofs.Asked.{published-is}
use Rattle.mv_ledger.proofs.Marks.{modules-newest, no-modules}
use Rattle.mv_ledger.proofs.ModuleChanges.{no-changes, none-past}
use Rattle.mv_ledger.specs.Changed.{module_changes}
use Rattle.mv_ledger.specs.Marks.{held_marks}
use Rattle.mv_ledger.proofs.Ledger.changed_modules.Goals as goal

pub returns-in-Some-clause-told : goal.returns-in-Some-clause-told
returns-in-Some-clause-told c = λ older old e.
    let self = c.self.inside in
    let marks = held_marks self.published.marks self.storage.marks self.run_marks.items in
    let newest = modules-newest self.published.marks self.storage.marks self.run_marks.items older old c.self.invariant.1 (ap (λ (v : LedgerView). v.marks) c.self.view_is ∙ e) in
    let was : old.published ≡ c.in-Some.before.now = sym newest.3 ∙ c.in-Some.ensures.held newest.0 newest.1 newest.2 in
    let now = published-is _ self.published self.storage.committed self.runs marks c.args.self.now c.published.view_is c.self.view_is in
    ap₂ module_changes (sym was) (sym now)

pub returns-in-Some-clause-none : goal.returns-in-Some-clause-none
returns-in-Some-clause-none c = λ e.
    let self = c.self.inside in
    let none = no-modules self.published.marks self.storage.marks self.run_marks.items c.self.invariant.1 (ap (λ (v : LedgerView). v.marks) c.self.view_is ∙ e) in
    let absent : Some c.in-Some.before ≡ None = c.in-Some.ensures.none none in
    cc

pub returns-in-None-clause-told : goal.returns-in-None-clause-told
returns-in-None-clause-told c = λ older old e.
    let self = c.self.inside in
    let store = c.published.inside.store in
    let newest = modules-newest self.published.marks self.storage.marks self.run_marks.items older old c.self.invariant.1 (ap (λ (v : LedgerView). v.marks) c.self.view_is ∙ e) in
    let was : self.published.modules ≡ old.published = sym (c.in-None.ensures.held newest.0 newest.1 newest.2) ∙ newest.3 in
    ap (λ (n : ℕ). module_changes (drop n store) (drop n store)) c.len.ensures.count ∙ none-past (drop (length store) store) store
    ∙ sym (no-changes self.published.modules) ∙ ap₂ module_changes was (ap (λ (v : LedgerView). v.published) c.self.view_is)

pub returns-in-None-clause-none : goal.returns-in-None-clause-none
returns-in-None-clause-none c = λ e.
    let store = c.published.inside.store in
    ap (λ (n : ℕ). module_changes (drop n store) (drop n store)) c.len.ensures.count ∙ none-past (drop (length store) store) store
