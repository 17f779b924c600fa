use Rattle.mv_ledger_state.proofs.Common.{rules, answers_always, Tally}
use Rattle.mv_ledger_state.proofs.Marks.{set-back}
use Rattle.mv_ledger_state.proofs.Runs.TalliesFound.{found-own, found-room, found-alone, none-own}
use Rattle.mv_ledger_state.proofs.tallies.add_entry.Goals as goal

-- no tally
abbrev none : Tally
none = record { place = 0; index = 0; packs = 0; unpacks = 0 }

pub add_to-requires-clause-own : goal.add_to-requires-clause-own
add_to-requires-clause-own c =
    found-own c.args.entry.now c.args.tallies.now c.requires.placed c.requires.ordered none c.in-Ok.found c.in-Ok.ensures.bound
    (c.in-Ok.ensures.position (λ (t : Tally). t.index) (answers_always _ _ _ (λ f a r g called. search rules)))

pub add_to-requires-clause-room : goal.add_to-requires-clause-room
add_to-requires-clause-room c =
    found-room c.args.entry.now c.args.tallies.now c.requires.placed c.requires.ordered none c.in-Ok.found c.in-Ok.ensures.bound
    (c.in-Ok.ensures.position (λ (t : Tally). t.index) (answers_always _ _ _ (λ f a r g called. search rules))) c.requires.room

pub returns-in-Ok-clause-after : goal.returns-in-Ok-clause-after
returns-in-Ok-clause-after c =
    found-alone c.args.entry.now c.args.tallies.now c.requires.placed c.requires.ordered none c.in-Ok.found c.in-Ok.ensures.bound
    (c.in-Ok.ensures.position (λ (t : Tally). t.index) (answers_always _ _ _ (λ f a r g called. search rules))) c.add_to.new.tally c.add_to.ensures

pub returns-in-Ok-clause-back : goal.returns-in-Ok-clause-back
returns-in-Ok-clause-back c = set-back c.args.tallies.now c.in-Ok.found c.add_to.new.tally none c.in-Ok.ensures.bound

pub returns-in-Err-clause-after : goal.returns-in-Err-clause-after
returns-in-Err-clause-after c =
    none-own c.args.entry.now c.args.tallies.now c.requires.placed c.requires.ordered none c.in-Err.field-0
    (c.in-Err.ensures.position (λ (t : Tally). t.index) (answers_always _ _ _ (λ f a r g called. search rules)))
