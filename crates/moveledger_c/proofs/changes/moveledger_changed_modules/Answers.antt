use Rattle.moveledger_c.proofs.Changed.{modules-held}
use Rattle.moveledger_c.proofs.changes.moveledger_changed_modules.Goals as goal

pub returns-clause-given : goal.returns-clause-given
returns-clause-given c =
    modules-held c.args.ledger.now.held c.in-Some.held.value c.deref.result.now c.give_changed-status.result c.give_changed-status.new.names.items
    c.in-Some.ensures.taken c.deref.ensures c.give_changed-status.ensures
