use Rattle.mv_saved_text.proofs.Common.{drop, leaves_from}
use Rattle.mv_saved_text.proofs.Loads.BodyReading.{LeavesOn}
use Rattle.mv_ledger_state.proofs.Unreading.{Onward}
use Rattle.mv_saved_text.proofs.loading.values.leaves.Given as goal

abbrev pub invariant-each : goal.invariant-each
invariant-each l = record {
  read : LeavesOn l.kinds l.kind-index l.initial.reader l.words.items l.reader;
  onward : Onward (leaves_from l.kinds) l.initial.reader (leaves_from (drop l.kind-index l.kinds)) l.reader;
}
