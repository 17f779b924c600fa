use Rattle.mv_ledger.proofs.Common.{◌≡◌, List, rules, subst, sym, All, FlatEntry, PublishedView, tables_in, IsFineWords}
use Rattle.mv_machine.specs.declared.Ending.TheVariants.{Returned as HasReturned}
use Rattle.mv_ledger.proofs.executing.run_over.Goals as goal

pub run-requires-clause-stored : goal.run-requires-clause-stored
run-requires-clause-stored c =
    subst (λ (es : List FlatEntry). All (IsFineWords (tables_in c.published.inside.store)) es) (sym c.overlay-overlay.ensures.current)
    (subst (λ (p : PublishedView). All (IsFineWords (tables_in p.modules)) c.args.storage.now.committed) (sym c.published.view_is) c.requires.stored)

pub returns-then-ne-clause-fine : goal.returns-then-ne-clause-fine
returns-then-ne-clause-fine c =
    let left : c.storage-then-ne-1.given.0.committed ≡ c.args.storage.now.committed = search rules in
    subst (λ (es : List FlatEntry). All (IsFineWords (tables_in c.args.published.now.modules)) es) (sym left) c.requires.stored

pub returns-clause-fine : goal.returns-clause-fine
returns-clause-fine c =
    let left : c.storage-2-1.given.0.committed ≡ c.run.new.o.storage.now.current = search rules in
    let ended : c.in-Ok.ended.0.ending ≡ HasReturned = search rules in
    subst (λ (p : PublishedView). All (IsFineWords (tables_in p.modules)) c.storage-2-1.given.0.committed) c.published.view_is
    (subst (λ (es : List FlatEntry). All (IsFineWords (tables_in c.published.inside.store)) es) (sym left) (c.in-Ok.ensures.fine ended))
