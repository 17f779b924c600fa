use Rattle.mv_ledger_state.proofs.Common.{[], ◌++◌, ◌+◌, ◌∷◌, ◌≡◌, Err, ap, arith, subst, sym, common_steps, ReadsOn, ReadsOn-next, ReadsOn-stops, argument_from}
use Rattle.mv_ledger_state.proofs.payload.arguments.Goals as goal

pub returns-in_err-next-clause-refused : goal.returns-in_err-next-clause-refused
returns-in_err-next-clause-refused c is =
    ReadsOn-stops argument_from 16 c.in_ok-count.count c.each.counter c.args.reader.now c.number.new.self c.each.list.items c.each.reader
    c.in_ok-count.ensures.reads (omega arith) (c.in_err-next.ensures.refused (ap Err c.in_err-next.ensures.errors)) c.each.invariant.reads

pub each-preserved : goal.each-preserved
each-preserved c =
    let pushed : c.push_reserved.new.self.items ≡ c.each.list.items ++ c.in_ok-next.next ∷ [] = c.push_reserved.ensures.items in
    record {
      reads = subst (λ z. ReadsOn argument_from c.in_ok-count.count (c.each.counter + 1) c.number.new.self z c.argument.new.reader) (sym pushed)
          (ReadsOn-next argument_from c.in_ok-count.count c.each.counter c.number.new.self c.each.list.items c.each.reader c.argument.new.reader c.in_ok-next.next
          (omega arith) c.in_ok-next.ensures.ok c.each.invariant.reads);
      range = grind (arith, common_steps);
      filled = omega (arith, c.push_reserved.ensures.len, c.each.invariant.filled);
      room = omega (arith, c.push_reserved.ensures.capacity, c.each.invariant.room);
    }
