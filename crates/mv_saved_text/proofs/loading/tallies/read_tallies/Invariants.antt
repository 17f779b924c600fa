use Rattle.mv_saved_text.proofs.Common.{◌-◌, ◌≡◌, length, map, take, ReadsOn, entries_from, counts_of, form_of, struct_of, tally_from}
use Rattle.mv_ledger_state.proofs.Unreading.{Onward}
use Rattle.mv_saved_text.proofs.loading.tallies.read_tallies.Given as goal

abbrev pub invariant-each : goal.invariant-each
invariant-each l = record {
  reads : ReadsOn (tally_from (form_of l.form)) (length l.fn.tallies) l.tally-index l.initial.reader (map counts_of (take l.tally-index l.tallies)) l.reader;
  onward : Onward (entries_from (tally_from (form_of l.form)) (length l.fn.tallies)) l.initial.reader (entries_from (tally_from (form_of l.form)) (length l.fn.tallies - l.tally-index)) l.reader;
  kept : map struct_of l.tallies ≡ map struct_of l.fn.tallies;
}
