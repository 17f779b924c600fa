use Rattle.mv_ledger_state.proofs.Common.{◌-◌, ReadsOn, entries_from, offers_of, offer_from}
use Rattle.mv_ledger_state.proofs.Unreading.{Onward}
use Rattle.mv_ledger_state.proofs.payload.offers.Given as goal

abbrev pub invariant-each : goal.invariant-each
invariant-each l = record {
  reads : ReadsOn offer_from l.count l.counter l.initial.reader (offers_of l.all.items) l.reader;
  onward : Onward (entries_from offer_from l.count) l.initial.reader (entries_from offer_from (l.count - l.counter)) l.reader;
}
