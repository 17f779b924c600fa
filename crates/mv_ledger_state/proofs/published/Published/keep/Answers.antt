use Rattle.mv_ledger_state.proofs.Common.{◌∙◌, ap, arith, sym, PublishedView}
use Rattle.mv_ledger_state.proofs.Marks.{held_one, kept-held, kept-marks, newest-before}
use Rattle.mv_ledger_state.proofs.published.Published.keep.Goals as goal

pub invariant_of-self : goal.invariant_of-self
invariant_of-self c =
    let p = c.self.inside in
    let ms = c.pop.new.self.items in
    let m = c.in-Some.mark in (
      c.self.invariant.0,
      kept-held p.blocks ms m p.store p.tallies c.self.invariant.1 c.in-Some.ensures.items c.hand.new.self (c.hand.ensures.held p.store p.tallies)
          (c.hand.ensures.ascend (newest-before p.blocks ms m p.store p.tallies c.self.invariant.1 c.in-Some.ensures.items)) (omega (arith, c.hand.ensures.room, c.hand.new.self.noted.ok.1)),
    )

pub returns-in-Some-clause-closed : goal.returns-in-Some-clause-closed
returns-in-Some-clause-closed c = λ done.
    let p = c.self.inside in
    let ms = c.pop.new.self.items in
    let m = c.in-Some.mark in (
      held_one p.blocks.noted.items m p.store p.tallies,
      sym (ap (λ (v : PublishedView). v.marks) c.self.view_is)
          ∙ kept-marks p.blocks ms m p.store p.tallies c.self.invariant.1 c.in-Some.ensures.items c.hand.new.self (c.hand.ensures.held p.store p.tallies),
    )
