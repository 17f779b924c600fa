use Rattle.mv_saved_text.proofs.Common.{◌*◌, ◌+◌}
use Rattle.mv_saved_text.proofs.Saves.LayoutParts.{ArePut}
use Rattle.mv_saved_text.proofs.layouts.Layouts.+kinds.Given as goal

abbrev pub decreases-put_struct : goal.decreases-put_struct
decreases-put_struct l = 3 * l.depth

abbrev pub decreases-put_part : goal.decreases-put_part
decreases-put_part l = 3 * l.depth + 1

abbrev pub decreases-put_parts : goal.decreases-put_parts
decreases-put_parts l = 3 * l.depth + 2

abbrev pub invariant-put_parts-each : goal.invariant-put_parts-each
invariant-put_parts-each l = ArePut l.self l.depth l.parts l.part-index l.fn.kinds.items l.kinds.items
