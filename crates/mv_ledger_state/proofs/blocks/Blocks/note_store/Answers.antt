use Rattle.mv_ledger_state.proofs.Common.{◌∙◌, ap, refl, sym, List}
use Rattle.mv_ledger_state.specs.Blocks.{held_at}
use Rattle.mv_ledger_state.specs.declared.blocks.Mark.{Mark}
use Rattle.mv_ledger_state.proofs.Marks.{held-in_place, on_ok-so}
use Rattle.mv_ledger_state.proofs.blocks.Blocks.note_store.Goals as goal

pub returns-in-Some-clause-held : goal.returns-in-Some-clause-held
returns-in-Some-clause-held c =
    on_ok-so c.with_copy-copy.result.1 (λ same modules tallies.
    let b = c.args.self.now in
    ap (λ (ms : List Mark). held_at b.noted.items ms modules tallies) c.push_reserved.ensures.items
    ∙ held-in_place b.noted.items c.pop.new.self.items c.in-Some.mark _ modules c.args.store.now tallies refl (same modules)
    ∙ ap (λ (ms : List Mark). held_at b.noted.items ms c.args.store.now tallies) (sym c.in-Some.ensures.items)) c.with_copy-copy.ensures.ok

pub returns-in-Some-clause-same : goal.returns-in-Some-clause-same
returns-in-Some-clause-same c = λ tallies.
    let b = c.args.self.now in
    let now = c.args.store.now in
    ap (λ (ms : List Mark). held_at b.noted.items ms now tallies) c.push_reserved.ensures.items
    ∙ held-in_place b.noted.items c.pop.new.self.items c.in-Some.mark _ now now tallies refl c.with_copy-copy.ensures.same
    ∙ ap (λ (ms : List Mark). held_at b.noted.items ms now tallies) (sym c.in-Some.ensures.items)
