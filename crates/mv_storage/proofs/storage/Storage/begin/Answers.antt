use Rattle.mv_storage.proofs.Common.{[], ◌++◌, ◌∙◌, ◌∷◌, ◌≡◌, ℕ, List, ap, length, subst, sym, on_err_weaker, on_ok_weaker, Committed}
use Rattle.std.proofs.Common.{ap₂}
use Rattle.std.specs.Prelude.{OnErr, OnOk, Result, Ok, Err}
use Rattle.std.specs.declared.alloc.AllocError.{AllocError}
use Rattle.mv_machine.specs.Flat.{FlatEntry}
use Rattle.mv_storage.specs.declared.blocks.Undone.{Undone}
use Rattle.mv_undo.specs.Undo.{marks_of, AreMarks}
use Rattle.mv_undo.proofs.Undoing.{AreMarks-begun}
use Rattle.mv_undo.proofs.Lasts.{last-some}
use Rattle.mv_storage.specs.Blocks.{back}
use Rattle.mv_storage.proofs.Shown.{shown_of}
use Rattle.mv_storage.proofs.Undoing.{marks-begun}
use Rattle.mv_storage.proofs.storage.Storage.begin.Goals as goal

pub invariant_of-self : goal.invariant_of-self
invariant_of-self c =
    let us = c.self.inside.undo.items in
    let marks = c.self.inside.marks in
    let is : c.len.result ≡ length us = c.len.ensures ∙ c.self.inside.undo.ok.0 in
    let begun : AreMarks (marks ++ c.len.result ∷ []) (length us) = subst (λ (n : ℕ). AreMarks (marks ++ n ∷ []) (length us)) (sym is) (AreMarks-begun marks (length us) c.self.invariant.2) in
    let after : (AreMarks c.begin.new.self (length us)) × (c.begin.new.self ≡ [] → us ≡ []) = by c.begin.result c.begin.new.self marks c.len.result us begun c.self.invariant.2 c.self.invariant.3 c.begin.ensures.ok c.begin.ensures.err in
    (c.self.invariant.0, c.self.invariant.1, after.0, after.1)
  where
    by : (r : Result (Unit {0}) AllocError) (new marks : List ℕ) (count : ℕ) (us : List Undone) → AreMarks (marks ++ count ∷ []) (length us) → AreMarks marks (length us) → (marks ≡ [] → us ≡ [])
        → OnOk r (new ≡ marks ++ count ∷ []) → OnErr r (new ≡ marks) → (AreMarks new (length us)) × (new ≡ [] → us ≡ [])
    by (Ok x) new marks count us begun was none ok err = (subst (λ (ms : List ℕ). AreMarks ms (length us)) (sym ok) begun, λ e. absurd (last-some marks count (sym ok ∙ e)))
    by (Err x) new marks count us begun was none ok err = (subst (λ (ms : List ℕ). AreMarks ms (length us)) (sym err) was, λ e. none (sym err ∙ e))

pub returns-clause-committed : goal.returns-clause-committed
returns-clause-committed c = ap (λ l. l.committed) c.self.view_is ∙ c.give_up.ensures.committed

pub returns-clause-marks : goal.returns-clause-marks
returns-clause-marks c =
    let us = c.self.inside.undo.items in
    let now = shown_of Committed c.self.inside.work.places in
    on_ok_weaker c.begin.result
    (λ is. ap (λ ms. marks_of back us ms now) is ∙ marks-begun us c.self.inside.marks c.len.result now (c.len.ensures ∙ c.self.inside.undo.ok.0)
    ∙ ap (λ l. l.marks ++ l.committed ∷ []) c.self.view_is ∙ ap₂ (λ (ms : List (List FlatEntry)) (h : List FlatEntry). ms ++ h ∷ []) c.give_up.ensures.marks c.give_up.ensures.committed)
    c.begin.ensures.ok

pub returns-clause-err : goal.returns-clause-err
returns-clause-err c =
    on_err_weaker c.begin.result
    (λ is. (ap (λ l. l.committed) c.self.view_is ∙ c.give_up.ensures.committed, ap (λ ms. marks_of back c.self.inside.undo.items ms (shown_of Committed c.self.inside.work.places)) is ∙ ap (λ l. l.marks) c.self.view_is ∙ c.give_up.ensures.marks))
    c.begin.ensures.err
