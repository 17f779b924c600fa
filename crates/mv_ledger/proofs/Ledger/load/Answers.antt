use Rattle.mv_ledger.proofs.Marks.{none-open}
use Rattle.mv_ledger.proofs.Ledger.load.Goals as goal

pub invariant_of-result : goal.invariant_of-result
invariant_of-result c =
    let loaded = c.in_ok-loaded.loaded in
    (c.in_ok-loaded.ensures.whole, none-open loaded.published.marks loaded.storage.marks c.new.result.items c.in_ok-loaded.ensures.marks c.in_ok-loaded.ensures.closed c.new.ensures.items)
