use Rattle.moveledger_c.proofs.Changed.{changes-held}
use Rattle.moveledger_c.proofs.changes.moveledger_changes.Goals as goal

pub returns-clause-given : goal.returns-clause-given
returns-clause-given c =
    changes-held c.args.ledger.now.held c.in-Some.held.value c.deref.result.now c.give_changes-status.result c.give_changes-status.new.before.items c.give_changes-status.new.now.items
    c.in-Some.ensures.taken c.deref.ensures c.give_changes-status.ensures
