use Rattle.mv_saved_text.proofs.Common.{◌≡◌, drop, length, entries_from, form_of, tally_from, all_of, lists_of}
use Rattle.mv_saved_text.proofs.Loads.BodyTallies.{TalliesOn, structs_in}
use Rattle.mv_ledger_state.proofs.Unreading.{Onward}
use Rattle.mv_saved_text.proofs.loading.tallies.read_all.Given as goal

abbrev pub invariant-each : goal.invariant-each
invariant-each l = record {
  reads : TalliesOn (tally_from (form_of l.form)) (length (all_of l.fn.all)) l.tallies-index l.fn.reader (lists_of l.tallies-items) l.reader;
  onward : Onward (entries_from (tally_from (form_of l.form)) (length (all_of l.fn.all))) l.fn.reader (entries_from (tally_from (form_of l.form)) (length (all_of (drop l.tallies-index (lists_of l.tallies-items))))) l.reader;
  kept : structs_in (lists_of l.tallies-items) ≡ structs_in l.fn.all;
}
