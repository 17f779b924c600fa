use Rattle.mv_ledger_state.proofs.Common.{[], ◌∙◌, ◌≡◌, ap, sym, List, None, Option, Some, PublishedModule, PublishedView, slice_get}
use Rattle.std.proofs.Common.{◌-◌, length}
use Rattle.std.specs.Prelude.{option_copied, unwrap_or}
use Rattle.mv_ledger_state.specs.declared.blocks.Mark.{Mark}
use Rattle.mv_ledger_state.proofs.Marks.{newest-modules, none-held-at, none-newest}
use Rattle.mv_ledger_state.proofs.published.Published.store_before.Goals as goal

pub returns-in-Some-clause-held : goal.returns-in-Some-clause-held
returns-in-Some-clause-held c = λ older old e.
    let p = c.self.inside in
    let ms = p.blocks.marks.items in
    let m = c.in-Some.mark.now in
    let at : slice_get ms (length ms - 1) ≡ Some m = ap (λ (ns : List Mark). slice_get ns (length ns - 1)) (sym c.deref.ensures.value) ∙ sym c.last.ensures.value ∙ ap option_copied c.in-Some.is in
    newest-modules p.blocks.noted.items ms m p.store p.tallies at older old (ap (λ (v : PublishedView). v.marks) c.self.view_is ∙ e)
    ∙ ap (λ (o : Option (List PublishedModule)). unwrap_or o p.store) (sym c.as_ref.ensures.value)
    ∙ ap (λ (v : PublishedView). unwrap_or (option_copied c.as_ref.result) v.modules) c.self.view_is

pub returns-in-Some-clause-none : goal.returns-in-Some-clause-none
returns-in-Some-clause-none c = λ e.
    let p = c.self.inside in
    let ms = p.blocks.marks.items in
    let none : ms ≡ [] = none-held-at p.blocks.noted.items ms p.store p.tallies (ap (λ (v : PublishedView). v.marks) c.self.view_is ∙ e) in
    let at : slice_get ms (length ms - 1) ≡ Some c.in-Some.mark.now = ap (λ (ns : List Mark). slice_get ns (length ns - 1)) (sym c.deref.ensures.value) ∙ sym c.last.ensures.value ∙ ap option_copied c.in-Some.is in
    let one : None ≡ Some c.in-Some.mark.now = sym (ap (λ (ns : List Mark). slice_get ns (length ns - 1)) none) ∙ at in
    cc

pub returns-in-None-clause-held : goal.returns-in-None-clause-held
returns-in-None-clause-held c = λ older old e.
    let p = c.self.inside in
    let ms = p.blocks.marks.items in
    let at : slice_get ms (length ms - 1) ≡ None = ap (λ (ns : List Mark). slice_get ns (length ns - 1)) (sym c.deref.ensures.value) ∙ sym c.last.ensures.value ∙ ap option_copied c.in-None.is in
    absurd (none-newest p.blocks.noted.items ms p.store p.tallies at older old (ap (λ (v : PublishedView). v.marks) c.self.view_is ∙ e))
