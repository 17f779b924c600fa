use Rattle.moveledger_c.proofs.Changed.{both-given, neither-given, not-given}
use Rattle.moveledger_c.proofs.texts.give_two.Goals as goal

pub returns-then-status-ne-DONE : goal.returns-then-status-ne-DONE
returns-then-status-ne-DONE c = neither-given c.args.text c.args.more _ _ (not-given c.args.text c.give-status.result c.give-status.new.out.items c.if-status-ne-DONE.true c.give-status.ensures) c.none.ensures

pub returns-then-status-ne-DONE-2 : goal.returns-then-status-ne-DONE-2
returns-then-status-ne-DONE-2 c =
    neither-given c.args.text c.args.more _ _ c.take.ensures.none (not-given c.args.more c.give-status-2.result c.give-status-2.new.out.items c.if-status-ne-DONE-2.true c.give-status-2.ensures)

pub returns : goal.returns
returns c = both-given c.args.text c.args.more c.give-status.result c.give-status-2.result c.give-status.new.out.items c.give-status-2.new.out.items c.if-status-ne-DONE.false c.if-status-ne-DONE-2.false c.give-status.ensures c.give-status-2.ensures
