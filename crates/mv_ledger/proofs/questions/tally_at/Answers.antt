use Rattle.mv_ledger.proofs.Common.{rules, sym, Tally}
use Rattle.mv_ledger_state.proofs.Common.{answers_always}
use Rattle.mv_ledger.proofs.Asked.{found-is, none-is}
use Rattle.mv_ledger.proofs.questions.tally_at.Goals as goal

-- no tally
abbrev none : Tally
none = record { place = 0; index = 0; packs = 0; unpacks = 0 }

pub returns-in-Ok : goal.returns-in-Ok
returns-in-Ok c =
    sym (found-is c.args.index c.args.tallies.now c.requires none c.in-Ok.found c.in-Ok.ensures.bound
    (c.in-Ok.ensures.position (λ (t : Tally). t.index) (answers_always _ _ _ (λ f a r g called. search rules))))

pub returns-in-Err : goal.returns-in-Err
returns-in-Err c =
    sym (none-is c.args.index c.args.tallies.now c.requires none c.in-Err.field-0
    (c.in-Err.ensures.position (λ (t : Tally). t.index) (answers_always _ _ _ (λ f a r g called. search rules))))
