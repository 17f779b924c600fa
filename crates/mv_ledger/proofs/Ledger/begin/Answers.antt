use Rattle.mv_ledger.proofs.Common.{◌++◌, ◌∙◌, ◌∷◌, [], ap, List, ℕ, LedgerView}
use Rattle.mv_ledger_state.specs.View.{held_of}
use Rattle.mv_ledger.specs.Marks.{marked}
use Rattle.mv_ledger.proofs.BlockWise.{begun-holds, begun-is}
use Rattle.mv_ledger.proofs.Ledger.begin.Goals as goal

pub invariant_of-self-in-Ok : goal.invariant_of-self-in-Ok
invariant_of-self-in-Ok c =
    let s = c.self.inside.storage in
    let rs = c.self.inside.run_marks.items in
    let runs = c.self.inside.runs in
    begun-holds c.self.inside.published c.begin.new.self s.committed c.begin-2.new.self.committed runs s.marks c.begin-2.new.self.marks rs c.push_reserved.new.self.items
    c.in_ok-begin.ensures.ok c.in-Ok.ensures.committed c.in-Ok.ensures.marks (c.push_reserved.ensures.items ∙ ap (λ (ks : List ℕ). ks ++ runs ∷ []) c.in_ok-reserve.ensures.items) c.self.invariant

pub returns-in-Ok-clause-ok : goal.returns-in-Ok-clause-ok
returns-in-Ok-clause-ok c =
    let s = c.self.inside.storage in
    let rs = c.self.inside.run_marks.items in
    let runs = c.self.inside.runs in
    begun-is c.self.inside.published c.begin.new.self s.committed c.begin-2.new.self.committed runs s.marks c.begin-2.new.self.marks rs c.push_reserved.new.self.items
    c.in_ok-begin.ensures.ok c.in-Ok.ensures.committed c.in-Ok.ensures.marks (c.push_reserved.ensures.items ∙ ap (λ (ks : List ℕ). ks ++ runs ∷ []) c.in_ok-reserve.ensures.items) c.self.invariant.1
    ∙ ap (λ (v : LedgerView). marked v (v.marks ++ held_of v ∷ [])) c.self.view_is
