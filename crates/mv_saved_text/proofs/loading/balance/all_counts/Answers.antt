use Rattle.mv_saved_text.proofs.Common.{◌+◌, List, arith, subst, sym, take, ℕ, Definition}
use Rattle.mv_saved_text.proofs.Loads.CountedStructs.{IsAdding, add-more, add-none, add-all}
use Rattle.mv_saved_text.proofs.loading.balance.all_counts.Goals as goal
use Rattle.mv_saved_text.proofs.loading.balance.all_counts.Goals.{then-n-gt0, else-n-gt0}

pub each-preserved : goal.each-preserved
each-preserved c =
    let ms = c.args.layouts.now in
    let es = c.args.storage.now.committed in
    let ds = c.keyed-d-items.result.now in
    let z : Definition = record { place = 0; index = 0 } in
    let is_so = λ (rows : List (List ℕ)). IsAdding ms es (take (c.each.d-index + 1) ds) rows in
    elim c.if-n-gt0.branch [
      | then-n-gt0 w ↦
          subst is_so (sym w.counts-is)
          (add-more ms es c.in_ok-stored.stored c.in_ok-stored.ensures ds c.each.d-index z c.each-test.true c.at-n.result c.at-n.ensures c.each.counts w.add_struct.new.counts w.add_struct.ensures
          c.each.invariant)
      | else-n-gt0 w ↦
          subst is_so (sym w.counts-is)
          (add-none ms es c.in_ok-stored.stored c.in_ok-stored.ensures ds c.each.d-index z c.each-test.true c.at-n.result c.at-n.ensures c.each.counts w.if-n-gt0.false c.each.invariant)
    ]

pub returns : goal.returns
returns c =
    add-all c.args.layouts.now c.len-modules.ensures.store c.args.storage.now.committed c.requires c.keyed-d-items.result.now c.each.d-index c.each.counts c.keyed-d-items.ensures (omega arith) c.each.invariant
