use Rattle.mv_ledger.proofs.Common.{◌∙◌, ◌≡◌, ap, arith, subst, sym, All, IfOk, IsFineWords, IsWritable, OnErr, PublishedView, tables_in, all_of, state_of, view_of, LedgerState}
use Rattle.mv_saved_text.proofs.Saves.Written.{all-writable}
use Rattle.mv_saved_text.specs.Flowing.{left_in, GivesNext}
use Rattle.mv_ledger.proofs.Ledger.next_piece.Goals as goal

pub next-requires-clause-few : goal.next-requires-clause-few
next-requires-clause-few c = omega (arith, c.published.invariant.0.few)

pub next-requires-clause-fine : goal.next-requires-clause-fine
next-requires-clause-fine c = subst (λ (p : PublishedView). All (IsFineWords (tables_in p.modules)) c.self.inside.storage.committed) (sym c.published.view_is) c.self.invariant.0.fine

pub next-requires-clause-writable : goal.next-requires-clause-writable
next-requires-clause-writable c =
    subst (λ (p : PublishedView). All IsWritable (all_of p.tallies)) (sym c.published.view_is)
    (all-writable c.self.inside.runs (all_of c.self.inside.published.tallies) c.self.invariant.0.counted c.self.invariant.0.small)

pub returns-clause-piece : goal.returns-clause-piece
returns-clause-piece c =
    let same = ap (λ (p : PublishedView). state_of (view_of p.modules c.self.inside.storage.committed (all_of p.tallies) c.self.inside.runs)) c.published.view_is ∙ ap state_of c.self.view_is in
    subst (λ (s : LedgerState). IfOk c.next.result (λ piece. GivesNext s c.args.saving.now piece c.next.new.self)) same c.next.ensures.piece

pub returns-clause-kept : goal.returns-clause-kept
returns-clause-kept c =
    let same = ap (λ (p : PublishedView). state_of (view_of p.modules c.self.inside.storage.committed (all_of p.tallies) c.self.inside.runs)) c.published.view_is ∙ ap state_of c.self.view_is in
    subst (λ (s : LedgerState). OnErr c.next.result (left_in c.next.new.self s ≡ left_in c.args.saving.now s)) same c.next.ensures.kept
