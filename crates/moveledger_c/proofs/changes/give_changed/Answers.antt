use Rattle.std.proofs.Common.{◌∙◌, ap, length}
use Rattle.moveledger_c.proofs.Changed.{modules-given}
use Rattle.moveledger_c.proofs.changes.give_changed.Goals as goal

pub returns : goal.returns
returns c =
    modules-given c.args.held.now c.changed_of.result c.give.result c.give.new.out.items (λ none. c.if-blocks-eq0.false (c.blocks-2.ensures ∙ ap length none)) c.changed_of.ensures c.give.ensures
