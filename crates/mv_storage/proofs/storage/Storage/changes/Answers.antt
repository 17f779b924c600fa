use Rattle.mv_storage.proofs.Common.{◌∙◌, ◌≤◌, ap, length, subst, sym, Committed}
use Rattle.std.proofs.Common.{drop}
use Rattle.mv_undo.specs.Undo.{undone, AreMarks}
use Rattle.mv_storage.specs.Blocks.{back}
use Rattle.mv_storage.specs.Difference.{first_at, told, IsDifference}
use Rattle.mv_storage.proofs.Shown.{shown_of, Ascends-shown}
use Rattle.mv_storage.proofs.Differing.{told-difference}
use Rattle.mv_storage.proofs.Undoing.{marks-last}
use Rattle.mv_storage.proofs.storage.Storage.changes.Goals as goal

pub firsts-requires : goal.firsts-requires
firsts-requires c =
    let us = c.self.inside.undo.items in
    subst (λ xs. c.newest-mark.result ≤ length xs) (sym c.as_slice-undo.ensures.value) (subst (λ n. c.newest-mark.result ≤ n) (c.len.ensures ∙ c.self.inside.undo.ok.0) (c.newest-mark.ensures.within (subst (AreMarks c.self.inside.marks) (sym (c.len.ensures ∙ c.self.inside.undo.ok.0)) c.self.invariant.2)))

pub returns : goal.returns
returns c older old e =
    let us = c.self.inside.undo.items in
    let ms = c.self.inside.marks in
    let p = c.self.inside.work.places in
    let h = shown_of Committed p in
    let l = marks-last us ms h older old (ap (λ s. s.marks) c.self.view_is ∙ e) in
    let mark = c.newest-mark.ensures.is l.0 l.1 l.2 in
    let count = c.len.ensures ∙ c.self.inside.undo.ok.0 in
    let within : c.newest-mark.result ≤ length us = subst (λ n. c.newest-mark.result ≤ n) count (c.newest-mark.ensures.within (subst (AreMarks ms) (sym count) c.self.invariant.2)) in
    let whole = told-difference us c.newest-mark.result within p c.self.invariant.0.tracked.sound.ordered c.in_ok-firsts.firsts c.in_ok-firsts.ensures.ordered
    (λ q. c.in_ok-firsts.ensures.has q ∙ ap (λ xs. first_at c.newest-mark.result (drop c.newest-mark.result xs) q) c.as_slice-undo.ensures.value)
    (Ascends-shown Committed p.slots.items p.tree.entries c.self.invariant.0.tracked.sound.ordered) in
    let from = subst (λ x. IsDifference x h (told us p c.in_ok-firsts.firsts.entries)) (ap (λ m. undone back (drop m us) h) mark ∙ l.3) whole in
    let now = subst (λ x. IsDifference old x (told us p c.in_ok-firsts.firsts.entries)) (ap (λ s. s.committed) c.self.view_is) from in
    subst (λ es. IsDifference old c.args.self.now.committed (told c.as_slice-undo.result.now p es)) (sym c.into_iter.ensures.into_iter_gives.0)
    (subst (λ xs. IsDifference old c.args.self.now.committed (told xs p c.in_ok-firsts.firsts.entries)) (sym c.as_slice-undo.ensures.value) now)
