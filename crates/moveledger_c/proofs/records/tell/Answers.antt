use Rattle.mv_move_types.specs.Numbers.{big_endian}
use Rattle.moveledger_c.proofs.Fronts.{told-none, told-some}
use Rattle.moveledger_c.proofs.records.tell.Goals as goal

pub returns-in-Some : goal.returns-in-Some
returns-in-Some c = told-some c.args.asked c.in-Some.who c.in-Some.most (big_endian c.put_sender.new.sender) c.in-Some.is c.put_sender.ensures

pub returns-in-None : goal.returns-in-None
returns-in-None c = told-none c.args.asked (big_endian c.put_sender-in-None.new.sender) c.in-None.is c.put_sender-in-None.ensures
