use Rattle.mv_saved_text.proofs.Common.{◌+◌, ◌-◌, ◌<◌, arith, length, map, subst, sym, take, err_from_is_err_and, ReadsOn, ReadsOn-next, entries_from, counts_of, form_of, tally_from}
use Rattle.mv_saved_text.proofs.Loads.BodyReading.{structs-kept, counts-more}
use Rattle.mv_saved_text.proofs.Loads.Extending.{tally-extends}
use Rattle.mv_ledger_state.proofs.Unreading.{onward-unread, entries-onward, entries-unread}
use Rattle.mv_saved_text.proofs.loading.tallies.read_tallies.Goals as goal

pub returns-in_err-read_tally-clause-refused : goal.returns-in_err-read_tally-clause-refused
returns-in_err-read_tally-clause-refused c =
    let p = err_from_is_err_and c.from_residual.result c.from_residual.ensures.1 in
    rw (p.1, p.2)
    (onward-unread (entries_from (tally_from (form_of c.args.form)) (length c.args.tallies.now)) c.args.reader.now
    (entries_from (tally_from (form_of c.args.form)) (length c.args.tallies.now - c.each.tally-index)) c.each.reader c.in_err-read_tally.field-0.0 c.each.invariant.onward
    (entries-unread (tally_from (form_of c.args.form)) (length c.args.tallies.now) c.each.tally-index c.each.reader c.in_err-read_tally.field-0.0 (omega arith) c.in_err-read_tally.ensures.refused))

pub returns-in_err-read_tally-clause-kept : goal.returns-in_err-read_tally-clause-kept
returns-in_err-read_tally-clause-kept c = structs-kept c.each.tallies c.args.tallies.now c.each.tally-index c.read_tally.new.tally _ c.read_tally.ensures.kept c.each.invariant.kept

pub each-preserved : goal.each-preserved
each-preserved c =
    let lt : c.each.tally-index < length c.each.tallies = omega arith in
    record {
      reads = subst (λ z. ReadsOn (tally_from (form_of c.args.form)) (length c.args.tallies.now) (c.each.tally-index + 1) c.args.reader.now z c.read_tally.new.reader)
          (sym (counts-more c.each.tallies c.each.tally-index c.read_tally.new.tally lt))
          (ReadsOn-next (tally_from (form_of c.args.form)) (length c.args.tallies.now) c.each.tally-index c.args.reader.now (map counts_of (take c.each.tally-index c.each.tallies)) c.each.reader
          c.read_tally.new.reader (counts_of c.read_tally.new.tally)
          (omega arith) c.in_ok-read_tally.ensures.ok c.each.invariant.reads);
      onward = entries-onward (entries_from (tally_from (form_of c.args.form)) (length c.args.tallies.now)) c.args.reader.now (tally_from (form_of c.args.form)) (length c.args.tallies.now) c.each.tally-index c.each.reader
          c.read_tally.new.reader (counts_of c.read_tally.new.tally) (tally-extends (form_of c.args.form)) (omega arith) c.in_ok-read_tally.ensures.ok c.each.invariant.onward;
      kept = structs-kept c.each.tallies c.args.tallies.now c.each.tally-index c.read_tally.new.tally _ c.read_tally.ensures.kept c.each.invariant.kept;
    }
