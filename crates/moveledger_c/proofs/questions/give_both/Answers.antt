use Rattle.moveledger_c.proofs.Changed.{slices-given}
use Rattle.moveledger_c.proofs.questions.give_both.Goals as goal

pub returns : goal.returns
returns c =
    slices-given c.args.text.now c.args.more.now c.from_slice-text.result c.from_slice-more.result c.give_two.result c.give_two.new.out.items c.give_two.new.other.items
    c.from_slice-text.ensures.items c.from_slice-more.ensures.items c.give_two.ensures
