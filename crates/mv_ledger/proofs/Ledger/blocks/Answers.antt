use Rattle.mv_ledger.proofs.Common.{◌∙◌, ap, length, sym, LedgerView}
use Rattle.mv_ledger.proofs.Marks.{marks-long}
use Rattle.mv_ledger.proofs.Ledger.blocks.Goals as goal

pub returns : goal.returns
returns c =
    let self = c.self.inside in
    c.len.ensures ∙ self.run_marks.ok.0 ∙ sym (marks-long self.published.marks self.storage.marks self.run_marks.items c.self.invariant.1) ∙ ap (λ (v : LedgerView). length v.marks) c.self.view_is
