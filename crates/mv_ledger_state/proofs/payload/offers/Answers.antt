use Rattle.mv_ledger_state.proofs.Common.{[], ◌++◌, ◌+◌, ◌-◌, ◌∙◌, ◌∷◌, ◌≡◌, ap, arith, subst, sym, common_steps, err_from_is_err_and, map-append, ReadsOn, ReadsOn-next, entries_from, offer_of, offers_of, offer_from}
use Rattle.mv_ledger_state.proofs.Unreading.{counted-unread, offer-extends}
use Rattle.mv_ledger_state.proofs.Unreading.{onward-unread, entries-onward, entries-unread}
use Rattle.mv_ledger_state.proofs.payload.offers.Goals as goal

pub returns-in_err-next-clause-refused : goal.returns-in_err-next-clause-refused
returns-in_err-next-clause-refused c =
    let p = err_from_is_err_and c.from_residual-in_err-next.result c.from_residual-in_err-next.ensures.1 in
    rw (p.1, p.2)
    (counted-unread offer_from c.args.most c.in_ok-count.count c.args.reader.now c.number.new.reader c.in_err-next.field-0.0 c.in_ok-count.ensures.reads
    (onward-unread (entries_from offer_from c.in_ok-count.count) c.number.new.reader (entries_from offer_from (c.in_ok-count.count - c.each.counter)) c.each.reader c.in_err-next.field-0.0
    c.each.invariant.onward
    (entries-unread offer_from c.in_ok-count.count c.each.counter c.each.reader c.in_err-next.field-0.0 (omega arith) c.in_err-next.ensures.refused)))

pub each-preserved : goal.each-preserved
each-preserved c =
    let pushed : c.push.new.self.items ≡ c.each.all.items ++ c.in_ok-next.next ∷ [] = grind (arith, common_steps) in
    let offered : offers_of c.push.new.self.items ≡ offers_of c.each.all.items ++ offer_of c.in_ok-next.next ∷ [] = ap offers_of pushed
    ∙ map-append offer_of c.each.all.items (c.in_ok-next.next ∷ []) in
    record {
      reads = subst (λ z. ReadsOn offer_from c.in_ok-count.count (c.each.counter + 1) c.number.new.reader z c.offer.new.reader) (sym offered)
          (ReadsOn-next offer_from c.in_ok-count.count c.each.counter c.number.new.reader (offers_of c.each.all.items) c.each.reader c.offer.new.reader (offer_of c.in_ok-next.next)
          (omega arith) c.in_ok-next.ensures.ok c.each.invariant.reads);
      onward = entries-onward (entries_from offer_from c.in_ok-count.count) c.number.new.reader offer_from c.in_ok-count.count c.each.counter c.each.reader c.offer.new.reader (offer_of c.in_ok-next.next)
          offer-extends (omega arith) c.in_ok-next.ensures.ok c.each.invariant.onward;
    }
