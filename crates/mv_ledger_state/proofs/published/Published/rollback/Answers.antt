use Rattle.mv_ledger_state.proofs.Common.{◌∙◌, ap, arith, drop, lists_of, refl, sym, unwrap_or, PublishedView}
use Rattle.mv_undo.specs.Undo.{undone}
use Rattle.mv_ledger_state.specs.Blocks.{tally_back}
use Rattle.mv_ledger_state.specs.declared.blocks.Blocks.{Blocks}
use Rattle.mv_ledger_state.proofs.Marks.{newest-below, back-held, back-marks}
use Rattle.mv_ledger_state.proofs.published.Published.rollback.Goals as goal

pub take_back-requires : goal.take_back-requires
take_back-requires c =
    let p = c.self.inside in
    newest-below p.blocks c.pop.new.self.items c.in-Some.mark p.store p.tallies c.self.invariant.1 c.in-Some.ensures.items

pub invariant_of-tallies : goal.invariant_of-tallies
invariant_of-tallies c =
    let p = c.self.inside in
    let b : Blocks = record { noted = c.take_back.new.noted; marks = c.pop.new.self; room = 0 } in
    (back-held p.blocks c.pop.new.self.items c.in-Some.mark p.store p.tallies c.self.invariant.1 c.in-Some.ensures.items (lists_of c.take_back.new.modules.items) c.take_back.new.noted.items
    c.take_back.ensures.left (λ k le. c.take_back.ensures.same k le ∙ ap (undone tally_back (drop k p.blocks.noted.items)) c.tallies.view_is) (unwrap_or c.in-Some.mark.store p.store) b refl refl refl
    (omega (arith, c.take_back.new.noted.ok.1))).0.placed

pub invariant_of-self : goal.invariant_of-self
invariant_of-self c =
    let p = c.self.inside in
    let b : Blocks = record { noted = c.give_back.new.noted; marks = c.pop.new.self; room = 0 } in
    back-held p.blocks c.pop.new.self.items c.in-Some.mark p.store p.tallies c.self.invariant.1 c.in-Some.ensures.items (lists_of c.take_back.new.modules.items) c.take_back.new.noted.items
    c.take_back.ensures.left (λ k le. c.take_back.ensures.same k le ∙ ap (undone tally_back (drop k p.blocks.noted.items)) c.tallies.view_is) c.put_back.new.store b c.put_back.ensures c.give_back.ensures refl
    (omega (arith, c.give_back.new.noted.ok.1))

pub returns-in-Some-clause-back : goal.returns-in-Some-clause-back
returns-in-Some-clause-back c = λ done.
    let p = c.self.inside in
    let b : Blocks = record { noted = c.give_back.new.noted; marks = c.pop.new.self; room = 0 } in
    sym (ap (λ (v : PublishedView). v.marks) c.self.view_is)
    ∙ back-marks p.blocks c.pop.new.self.items c.in-Some.mark p.store p.tallies c.self.invariant.1 c.in-Some.ensures.items (lists_of c.take_back.new.modules.items) c.take_back.new.noted.items
    c.take_back.ensures.left (λ k le. c.take_back.ensures.same k le ∙ ap (undone tally_back (drop k p.blocks.noted.items)) c.tallies.view_is) c.put_back.new.store b c.put_back.ensures c.give_back.ensures refl
