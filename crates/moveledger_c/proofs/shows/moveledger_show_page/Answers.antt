use Rattle.std.proofs.Common.{refl}
use Rattle.mv_move_types.specs.Numbers.{big_endian}
use Rattle.mv_ledger.specs.Formats.{format_of}
use Rattle.mv_ledger.specs.Questions.{IsShownPage}
use Rattle.moveledger_c.specs.Questions.{format_in, struct_in}
use Rattle.moveledger_c.specs.Statuses.{absent}
use Rattle.moveledger_c.proofs.Asked.{page-given, page-none}
use Rattle.moveledger_c.proofs.shows.moveledger_show_page.Goals.{in-Some-show_page, in-None}
use Rattle.moveledger_c.proofs.shows.moveledger_show_page.Goals as goal

pub returns-clause-given : goal.returns-clause-given
returns-clause-given c =
    let form = format_in c.args.form in
    let held = c.args.ledger.now.held in
    let name = struct_in c.args.home.now c.args.module.now c.args.name.now in
    let from = big_endian c.args.from.now in
    let f = format_of c.in-Some.format in
    let l = c.in-Some-take.held.value in
    let shown : IsShownPage l name from c.args.most f c.show_page.result = rw (c.deref.ensures, c.new-name.ensures, c.from_be_bytes.ensures, c.from_be_bytes-begin.ensures) at c.show_page.ensures in
    elim c.match-show_page.branch [
      | in-Some-show_page w ↦
          let page = w.in-Some-show_page in
          let given = w.give_page-status in
          rw (w.status-is, w.from-is, w.is_more-is, w.lines-is)
          (page-given form held f l name from c.args.most (page.shown, page.next) given.result (big_endian given.new.from) given.new.is_more given.new.out.items c.in-Some.ensures c.in-Some-take.ensures.taken (rw page.is at shown) given.ensures)
      | in-None w ↦
          rw (w.status-is, w.from-is, w.is_more-is, w.lines-is)
          (page-none form held f l name from c.args.most absent from 0 c.none.result.items c.in-Some.ensures c.in-Some-take.ensures.taken (rw w.in-None.is at shown) refl (refl, refl, c.none.ensures))
    ]
