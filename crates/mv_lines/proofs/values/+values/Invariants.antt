use Rattle.mv_lines.proofs.Common.{◌*◌, ◌+◌, tables_in, part_from}
use Rattle.mv_lines.proofs.Shows.Fields.{HasPut}
use Rattle.mv_lines.proofs.values.+values.Given as goal

abbrev pub decreases-put_struct : goal.decreases-put_struct
decreases-put_struct l = 3 * l.depth

abbrev pub decreases-put_parts : goal.decreases-put_parts
decreases-put_parts l = 3 * l.depth + 2

abbrev pub decreases-put_part : goal.decreases-put_part
decreases-put_part l = 3 * l.depth + 1

abbrev pub invariant-put_parts-each : goal.invariant-put_parts-each
invariant-put_parts-each l = HasPut (part_from (tables_in l.store) l.depth) l.parts l.i l.words l.rest l.fn.text.items l.text.items
