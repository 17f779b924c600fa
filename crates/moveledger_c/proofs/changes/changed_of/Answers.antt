use Rattle.moveledger_c.proofs.Changed.{changes-taken, lines-told}
use Rattle.moveledger_c.proofs.changes.changed_of.Goals as goal

pub each-preserved : goal.each-preserved
each-preserved c =
    let taken = c.in-Some.ensures in
    changes-taken c.each.text.items c.put_word.new.text.items c.put_name.new.text.items _ c.each.modules c.next.new.self taken.0 c.in-Some.is_replaced (record { address = c.in-Some.address; name = c.in-Some.name.now })
    c.each.invariant taken.1 taken.2 taken.3 c.in_ok-put_word.ensures c.in_ok-put_name.ensures

pub returns : goal.returns
returns c = lines-told c.args.held.now c.each.text.items c.changed_modules-modules.result c.each.modules c.in_default.ensures.0 c.each.invariant c.changed_modules-modules.ensures.told
