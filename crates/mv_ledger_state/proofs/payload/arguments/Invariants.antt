use Rattle.mv_ledger_state.proofs.Common.{◌≡◌, ◌+◌, ◌≤◌, IsTrue, list_all, ReadsOn, number_fits, Argument, argument_from, vec_capacity, vec_len}
use Rattle.mv_ledger_state.proofs.payload.arguments.Given as goal

abbrev pub invariant-each : goal.invariant-each
invariant-each l = record {
  reads : ReadsOn argument_from l.count l.counter l.initial.reader l.list.items l.reader;
  range : IsTrue (list_all (λ (a : Argument). number_fits a.kind a.number) l.list.items);
  filled : vec_len l.list ≡ l.counter;
  room : l.count + 1 ≤ vec_capacity l.list;
}
