use Rattle.mv_machine.specs.Lines.{address_text}
use Rattle.moveledger_c.proofs.Asked.{name-put}
use Rattle.moveledger_c.proofs.questions.put_name.Goals as goal

pub returns : goal.returns
returns c =
    name-put c.args.text.now.items c.put_address.new.text.items c.extend_from_slice.new.self.items c.extend_from_slice-2.new.self.items c.push.new.self.items
    (address_text c.args.address) c.args.name.now
    c.in_ok-put_address.ensures c.in_ok-extend_from_slice.ensures.items c.in_ok-extend_from_slice-2.ensures.items c.in_ok-push.ensures.items
