use Rattle.mv_saved_text.proofs.Common.{◌∙◌, ◌≡◌, List, ap, arith, drop, length, subst, sym, err_from_is_err_and, length-set, entries_from, form_of, tally_from, ArePlaced, all_of, Tally, lists_of}
use Rattle.mv_saved_text.proofs.Loads.Extending.{tally-extends}
use Rattle.mv_ledger_state.proofs.Unreading.{Onward, onward-start, onward-unread}
use Rattle.mv_saved_text.proofs.Loads.Unreading.{vector-unread, vector-onward}
use Rattle.mv_saved_text.proofs.Loads.BodyTallies.{TalliesOn, TalliesOn-start, structs_in, whole-placed, whole-kept, structs-set, reads-next}
use Rattle.mv_saved_text.proofs.loading.tallies.read_all.Goals as goal

pub each-init : goal.each-init
each-init c =
    let own : c.args.all.now ≡ lists_of c.deref_mut-tallies-items.result.now = sym (ap lists_of c.deref_mut-tallies-items.ensures.value ∙ c.all.view_is) in
    record {
      reads = subst (λ (tss : List (List Tally)). TalliesOn (tally_from (form_of c.args.form)) (length (all_of tss)) 0 c.args.reader.now (lists_of c.deref_mut-tallies-items.result.now) c.args.reader.now)
          (sym own)
          (TalliesOn-start (tally_from (form_of c.args.form)) c.args.reader.now (lists_of c.deref_mut-tallies-items.result.now));
      onward = subst (λ (tss : List (List Tally)). Onward (entries_from (tally_from (form_of c.args.form)) (length (all_of tss))) c.args.reader.now
          (entries_from (tally_from (form_of c.args.form)) (length (all_of (lists_of c.deref_mut-tallies-items.result.now)))) c.args.reader.now)
          (sym own) (onward-start (entries_from (tally_from (form_of c.args.form)) (length (all_of (lists_of c.deref_mut-tallies-items.result.now)))) c.args.reader.now);
      kept = ap structs_in (sym own);
    }

pub invariant_of-all : goal.invariant_of-all
invariant_of-all c =
    whole-placed c.all.inside.modules c.each.tallies-items c.args.all.now (c.each.auto.tallies-items ∙ c.deref_mut-tallies-items.ensures.len) c.each.invariant.kept
    (subst (λ (tss : List (List Tally)). ArePlaced 0 tss) c.all.view_is c.all.invariant)

pub invariant_of-all-in_err-read_tallies : goal.invariant_of-all-in_err-read_tallies
invariant_of-all-in_err-read_tallies c =
    whole-placed c.all.inside.modules _ c.args.all.now
    (length-set c.each.tallies-items c.each.tallies-index _ ∙ c.each.auto.tallies-items ∙ c.deref_mut-tallies-items.ensures.len)
    (structs-set c.each.tallies-items c.each.tallies-index c.tallies-item.result c.deref_mut.result.now c.read_tallies.new.tallies (omega arith) c.deref_mut.ensures.value c.deref_mut.ensures.len
    c.in_err-read_tallies.ensures.kept c.args.all.now c.each.invariant.kept)
    (subst (λ (tss : List (List Tally)). ArePlaced 0 tss) c.all.view_is c.all.invariant)

pub returns-in_err-read_tallies-clause-refused : goal.returns-in_err-read_tallies-clause-refused
returns-in_err-read_tallies-clause-refused c =
    let p = err_from_is_err_and c.from_residual.result c.from_residual.ensures.1 in
    rw (p.1, p.2)
    (onward-unread (entries_from (tally_from (form_of c.args.form)) (length (all_of c.args.all.now))) c.args.reader.now
    (entries_from (tally_from (form_of c.args.form)) (length (all_of (drop c.each.tallies-index (lists_of c.each.tallies-items))))) c.each.reader c.in_err-read_tallies.field-0.0 c.each.invariant.onward
    (vector-unread c.each.tallies-items c.each.tallies-index c.tallies-item.result c.deref_mut.result.now c.read_tallies.new.tallies (omega arith) c.deref_mut.ensures.value c.deref_mut.ensures.len
    c.in_err-read_tallies.ensures.kept (tally_from (form_of c.args.form)) c.each.reader c.in_err-read_tallies.field-0.0 c.in_err-read_tallies.ensures.refused))

pub returns-in_err-read_tallies-clause-kept : goal.returns-in_err-read_tallies-clause-kept
returns-in_err-read_tallies-clause-kept c =
    whole-kept c.all.inside.modules _ c.args.all.now
    (length-set c.each.tallies-items c.each.tallies-index _ ∙ c.each.auto.tallies-items ∙ c.deref_mut-tallies-items.ensures.len)
    (structs-set c.each.tallies-items c.each.tallies-index c.tallies-item.result c.deref_mut.result.now c.read_tallies.new.tallies (omega arith) c.deref_mut.ensures.value c.deref_mut.ensures.len
    c.in_err-read_tallies.ensures.kept c.args.all.now c.each.invariant.kept)

pub each-preserved : goal.each-preserved
each-preserved c = record {
  reads = reads-next c.each.tallies-items c.each.tallies-index c.tallies-item.result c.deref_mut.result.now c.read_tallies.new.tallies (omega arith) c.deref_mut.ensures.value c.deref_mut.ensures.len
      c.in_ok-read_tallies.ensures.kept
      (tally_from (form_of c.args.form)) _ c.args.reader.now c.each.reader c.read_tallies.new.reader c.in_ok-read_tallies.ensures.ok c.each.invariant.reads;
  onward = vector-onward c.each.tallies-items c.each.tallies-index c.tallies-item.result c.deref_mut.result.now c.read_tallies.new.tallies (omega arith) c.deref_mut.ensures.value c.deref_mut.ensures.len
      c.in_ok-read_tallies.ensures.kept
      (entries_from (tally_from (form_of c.args.form)) (length (all_of c.args.all.now))) c.args.reader.now (tally_from (form_of c.args.form)) c.each.reader c.read_tallies.new.reader _
      (tally-extends (form_of c.args.form)) c.in_ok-read_tallies.ensures.ok c.each.invariant.onward;
  kept = structs-set c.each.tallies-items c.each.tallies-index c.tallies-item.result c.deref_mut.result.now c.read_tallies.new.tallies (omega arith) c.deref_mut.ensures.value c.deref_mut.ensures.len
      c.in_ok-read_tallies.ensures.kept c.args.all.now c.each.invariant.kept;
}
