use Rattle.mv_ledger.proofs.Common.{ap, PublishedView}
use Rattle.mv_ledger.proofs.Ledgers.{ledger-new}
use Rattle.mv_ledger.proofs.Marks.{none-open}
use Rattle.mv_ledger.proofs.Ledger.new.Goals as goal

pub invariant_of-result : goal.invariant_of-result
invariant_of-result c = (
  ledger-new c.new.result c.new-2.result.committed c.new.ensures c.new-2.ensures.committed,
  none-open c.new.result.marks c.new-2.result.marks c.new-3.result.items (ap (λ (v : PublishedView). v.marks) c.new.ensures) c.new-2.ensures.marks c.new-3.ensures.items,
)
