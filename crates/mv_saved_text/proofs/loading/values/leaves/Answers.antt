use Rattle.mv_saved_text.proofs.Common.{◌++◌, ◌+◌, ◌∷◌, ◌≡◌, [], arith, drop, rules, subst, sym, common_steps, err_from_is_err_and, leaves_from}
use Rattle.mv_saved_text.proofs.Loads.BodyReading.{LeavesOn, LeavesOn-next}
use Rattle.mv_saved_text.proofs.Loads.Extending.{leaf-extends}
use Rattle.mv_ledger_state.proofs.Unreading.{onward-unread}
use Rattle.mv_saved_text.proofs.Loads.Unreading.{leaves-onward, leaves-unread}
use Rattle.mv_saved_text.proofs.loading.values.leaves.Goals as goal

pub returns-in_err-next-clause-refused : goal.returns-in_err-next-clause-refused
returns-in_err-next-clause-refused c =
    let p = err_from_is_err_and c.from_residual.result c.from_residual.ensures.1 in
    rw (p.1, p.2)
    (onward-unread (leaves_from c.args.kinds.now) c.args.reader.now (leaves_from (drop c.each.kind-index c.args.kinds.now)) c.each.reader c.in_err-next.field-0.0 c.each.invariant.onward
    (leaves-unread c.args.kinds.now c.each.kind-index c.each.reader _ c.in_err-next.field-0.0 (omega arith) (search rules) c.in_err-next.ensures.refused))

pub each-preserved : goal.each-preserved
each-preserved c =
    let pushed : c.push.new.self.items ≡ c.each.words.items ++ c.in_ok-next.next ∷ [] = grind (arith, common_steps) in
    record {
      read = subst (λ z. LeavesOn c.args.kinds.now (c.each.kind-index + 1) c.args.reader.now z c.word.new.reader) (sym pushed)
          (LeavesOn-next c.args.kinds.now c.each.kind-index c.args.reader.now c.each.words.items c.each.reader c.word.new.reader _ c.in_ok-next.next (omega arith) (search rules) c.in_ok-next.ensures.ok
          c.each.invariant.read);
      onward = leaves-onward (leaves_from c.args.kinds.now) c.args.reader.now c.args.kinds.now c.each.kind-index c.each.reader c.word.new.reader _ c.in_ok-next.next (leaf-extends _) (omega arith) (search rules)
          c.in_ok-next.ensures.ok c.each.invariant.onward;
    }
