use Rattle.mv_ledger.specs.Formats.{format_of}
use Rattle.mv_move_types.specs.Numbers.{big_endian}
use Rattle.moveledger_c.specs.Questions.{format_in}
use Rattle.moveledger_c.proofs.Asked.{shown-at}
use Rattle.moveledger_c.proofs.shows.moveledger_show_at.Goals as goal

pub returns-clause-given : goal.returns-clause-given
returns-clause-given c =
    shown-at (format_in c.args.form) c.args.ledger.now.held (format_of c.in-Some.format) c.in-Some-take.held.value c.deref.result.now (big_endian c.args.address.now) c.from_be_bytes-address.result c.show_at.result
    c.give_lines-status.result c.give_lines-status.new.out.items c.in-Some.ensures c.in-Some-take.ensures.taken c.deref.ensures c.from_be_bytes-address.ensures c.show_at.ensures c.give_lines-status.ensures
