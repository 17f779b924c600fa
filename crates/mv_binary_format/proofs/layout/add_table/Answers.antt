use Rattle.mv_binary_format.proofs.Common.{◌≡◌, arith, length, sym, common_steps, flat_map, table_code, written_headers}
use Rattle.mv_binary_format.proofs.Ordered.{AreOf-next}
use Rattle.mv_binary_format.proofs.layout.add_table.Goals as goal

pub returns : goal.returns
returns g c = λ ts so_far.
    let a : length c.args.layout.now.contents.items ≡ c.len-start.result = grind (arith, common_steps) in
    let b : length c.write_entries.new.out.items ≡ c.len.result = grind (arith, common_steps) in
    AreOf-next (table_code c.args.kind) (flat_map g.E.Entry.text c.args.entries.now) ts (written_headers c.args.layout.now.headers.items) (written_headers c.end_table.new.headers.items)
    c.args.layout.now.contents.items c.write_entries.new.out.items c.len-start.result c.len.result so_far c.in_ok-write_entries.ensures (sym a) (sym b) c.in_ok-end_table.ensures
