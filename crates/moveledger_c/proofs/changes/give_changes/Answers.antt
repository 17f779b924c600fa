use Rattle.std.proofs.Common.{◌∙◌, ap, length}
use Rattle.moveledger_c.proofs.Changed.{changes-given}
use Rattle.moveledger_c.proofs.changes.give_changes.Goals as goal

pub returns : goal.returns
returns c =
    changes-given c.args.held.now c.side_of-had.result c.side_of-has.result c.give_two.result c.give_two.new.out.items c.give_two.new.other.items
    (λ none. c.if-blocks-eq0.false (c.blocks-2.ensures ∙ ap length none)) c.side_of-had.ensures c.side_of-has.ensures c.give_two.ensures
