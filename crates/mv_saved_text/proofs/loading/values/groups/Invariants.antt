use Rattle.mv_saved_text.proofs.Loads.Filling.{Groups}
use Rattle.mv_saved_text.proofs.loading.values.groups.Given as goal

abbrev pub invariant-each : goal.invariant-each
invariant-each l = Groups l.layouts l.structs l.fn.reader l.at-index l.fn.filling l.filling l.reader
