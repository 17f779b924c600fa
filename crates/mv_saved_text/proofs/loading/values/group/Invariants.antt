use Rattle.mv_saved_text.proofs.Common.{entry_from}
use Rattle.mv_saved_text.proofs.Loads.Filling.{Rises}
use Rattle.mv_saved_text.proofs.loading.values.group.Given as goal

abbrev pub invariant-each : goal.invariant-each
invariant-each l = Rises (entry_from l.layouts l.known) l.count l.fn.reader l.initial.reader l._number l.fn.filling l.filling l.last l.reader
