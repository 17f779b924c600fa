use Rattle.mv_saved_text.proofs.Common.{◌++◌, ◌∙◌, ◌≤◌, ap, arith, drop, length, List, subst, sym, ℕ}
use Rattle.std.specs.List.{slice_range}
use Rattle.std.proofs.lemmas.List.{length-drop}
use Rattle.std.proofs.lemmas.List.Folds.{drop_split}
use Rattle.mv_saved_text.specs.Flowing.{SavingView}
use Rattle.mv_saved_text.proofs.flowing.Saving.give.Goals as goal

pub returns-clause-ready : goal.returns-clause-ready
returns-clause-ready c =
    let made : List ℕ = c.self.inside.made.items in
    let low : 1 ≤ length (drop c.self.inside.given made) = subst (λ (v : SavingView). 1 ≤ length v.ready) (sym c.self.view_is) c.requires in
    let on : c.self.inside.given ≤ c.min-end.result = omega (arith, low, length-drop c.self.inside.given made, c.len-2.ensures, c.saturating_add.ensures, c.min-end.ensures) in
    sym (ap (λ (v : SavingView). v.ready) c.self.view_is) ∙ drop_split made c.self.inside.given c.min-end.result on
    ∙ ap (λ (l : List ℕ). l ++ drop c.min-end.result made)
    (sym (c.in_ok-piece.ensures.items ∙ ap (λ (l : List ℕ). slice_range l c.self.inside.given c.min-end.result) c.deref.ensures.value))
