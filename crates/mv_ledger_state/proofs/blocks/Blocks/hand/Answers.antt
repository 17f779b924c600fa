use Rattle.mv_ledger_state.proofs.Common.{◌∙◌, ap, length, refl, subst, sym, unwrap_or, List, Option}
use Rattle.mv_undo.specs.Undo.{AreMarks}
use Rattle.mv_move_types.specs.Published.{PublishedModule}
use Rattle.mv_ledger_state.specs.Blocks.{counts_at, held_at}
use Rattle.mv_ledger_state.specs.declared.blocks.Mark.{Mark}
use Rattle.mv_ledger_state.proofs.Marks.{ascend-in_place, held-in_place, or-is}
use Rattle.mv_ledger_state.proofs.blocks.Blocks.hand.Goals as goal

pub returns-in-Some-clause-held : goal.returns-in-Some-clause-held
returns-in-Some-clause-held c = λ modules tallies.
    let b = c.args.self.now in
    let then = unwrap_or c.args.store modules in
    ap (λ (ms : List Mark). held_at b.noted.items ms modules tallies) c.push_reserved.ensures.items
    ∙ held-in_place b.noted.items c.pop.new.self.items c.in-Some.mark _ modules then tallies refl
    (ap (λ (o : Option (List PublishedModule)). unwrap_or o modules) c.or.ensures ∙ or-is c.in-Some.mark.store c.args.store modules)
    ∙ ap (λ (ms : List Mark). held_at b.noted.items ms then tallies) (sym c.in-Some.ensures.items)

pub returns-in-Some-clause-ascend : goal.returns-in-Some-clause-ascend
returns-in-Some-clause-ascend c = λ a.
    let b = c.args.self.now in
    subst (λ (ms : List Mark). AreMarks (counts_at ms) (length b.noted.items)) (sym c.push_reserved.ensures.items)
    (ascend-in_place c.pop.new.self.items c.in-Some.mark _ (length b.noted.items) refl (subst (λ (ms : List Mark). AreMarks (counts_at ms) (length b.noted.items)) c.in-Some.ensures.items a))
