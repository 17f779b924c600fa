use Rattle.mv_lines.proofs.Common.{tables_in}
use Rattle.mv_lines.proofs.Shows.Structs.{key-value}
use Rattle.mv_lines.proofs.values.put_value.Goals as goal

pub returns-in-Some : goal.returns-in-Some
returns-in-Some c = key-value (tables_in c.args.store.now) c.args.d c.args.words.now c.in-Some.field-0 c.args.text.now.items c.put_struct.new.text.items
    (rw c.in-Some.is at c.in_ok-put_struct.ensures.value)
