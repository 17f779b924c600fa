use Rattle.mv_saved_text.proofs.Common.{◌*◌, ◌+◌}
use Rattle.mv_saved_text.proofs.Loads.Adding.{AddsFirst}
use Rattle.mv_saved_text.proofs.loading.balance.+inside.Given as goal

abbrev pub decreases-add_struct : goal.decreases-add_struct
decreases-add_struct l = 3 * l.depth

abbrev pub decreases-add_part : goal.decreases-add_part
decreases-add_part l = 3 * l.depth + 1

abbrev pub decreases-add_parts : goal.decreases-add_parts
decreases-add_parts l = 3 * l.depth + 2

abbrev pub invariant-add_parts-each : goal.invariant-add_parts-each
invariant-add_parts-each l = AddsFirst l.layouts l.n l.depth l.parts l.part-index l.fn.counts l.counts
