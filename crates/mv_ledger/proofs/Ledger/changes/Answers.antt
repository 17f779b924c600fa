use Rattle.mv_ledger.proofs.Common.{◌++◌, ◌∙◌, ◌∷◌, ◌≡◌, [], ap, subst, List, FlatEntry, LedgerView}
use Rattle.std.proofs.lemmas.Result.{IfOk-weaker}
use Rattle.mv_storage.specs.Difference.{Change, IsDifference}
use Rattle.mv_ledger_state.specs.View.{HeldView}
use Rattle.mv_ledger.proofs.Marks.{stored-newest}
use Rattle.mv_ledger.proofs.Ledger.changes.Goals as goal

pub returns : goal.returns
returns c =
    let p = c.self.inside.published in
    let s = c.self.inside.storage in
    let rs = c.self.inside.run_marks.items in
    IfOk-weaker c.changes.result
    (λ (told : List Change). (older : List (List FlatEntry)) (old : List FlatEntry) → s.marks ≡ older ++ old ∷ [] → IsDifference old s.committed told)
    (λ (told : List Change). (older : List HeldView) (old : HeldView) → c.args.self.now.marks ≡ older ++ old ∷ [] → IsDifference old.stored c.args.self.now.stored told)
    (λ told is older old e.
    let newest = stored-newest p.marks s.marks rs older old c.self.invariant.1 (ap (λ (v : LedgerView). v.marks) c.self.view_is ∙ e) in
    subst (λ (now : List FlatEntry). IsDifference old.stored now told) (ap (λ (v : LedgerView). v.stored) c.self.view_is) (is newest.0 old.stored newest.1))
    c.changes.ensures
