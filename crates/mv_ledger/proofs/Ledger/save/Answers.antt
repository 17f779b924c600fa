use Rattle.mv_ledger.proofs.Common.{[], LedgerView, ◌∙◌, ap, arith, subst, sym, All, IsFineWords, IsWritable, PublishedView, tables_in, all_of, view_of}
use Rattle.mv_saved_text.proofs.Saves.Written.{all-writable, saved-so}
use Rattle.mv_ledger.specs.Marks.{marked}
use Rattle.mv_ledger.proofs.Ledger.save.Goals as goal

pub text_of-requires-clause-few : goal.text_of-requires-clause-few
text_of-requires-clause-few c = omega (arith, c.published.invariant.0.few)

pub text_of-requires-clause-fine : goal.text_of-requires-clause-fine
text_of-requires-clause-fine c = subst (λ (p : PublishedView). All (IsFineWords (tables_in p.modules)) c.self.inside.storage.committed) (sym c.published.view_is) c.self.invariant.0.fine

pub text_of-requires-clause-writable : goal.text_of-requires-clause-writable
text_of-requires-clause-writable c =
    subst (λ (p : PublishedView). All IsWritable (all_of p.tallies)) (sym c.published.view_is)
    (all-writable c.self.inside.runs (all_of c.self.inside.published.tallies) c.self.invariant.0.counted c.self.invariant.0.small)

pub returns : goal.returns
returns c =
    saved-so c.text_of.result c.self.inside.runs c.published.inside.store c.self.inside.storage.committed (all_of c.published.inside.tallies) (marked c.args.self.now [])
    (ap (λ (p : PublishedView). view_of p.modules c.self.inside.storage.committed (all_of p.tallies) c.self.inside.runs) c.published.view_is ∙ ap (λ (v : LedgerView). marked v []) c.self.view_is) c.is_sound.ensures c.is_savable.ensures
    c.text_of.ensures
