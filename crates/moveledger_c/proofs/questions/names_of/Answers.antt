use Rattle.moveledger_c.proofs.Asked.{names-taken}
use Rattle.moveledger_c.proofs.questions.names_of.Goals as goal

pub each-preserved : goal.each-preserved
each-preserved c =
    let taken = c.in-Some.ensures in
    names-taken c.each.text.items c.put_name.new.text.items _ c.each.modules c.next.new.self taken.0 (record { address = c.in-Some.address; name = c.in-Some.name.now }) c.each.invariant taken.1 taken.2 c.in_ok-put_name.ensures
