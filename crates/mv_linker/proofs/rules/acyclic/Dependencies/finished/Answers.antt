use Rattle.mv_linker.proofs.Common.{◌∙◌, PublishedModule, length-map, offered, subst, sym, tables_in}
use Rattle.mv_linker.specs.Finished.{AreFinished}
use Rattle.mv_linker.proofs.Common.{[], modules_in}
use Rattle.mv_linker.proofs.Cycles.Finished.{finished-first}
use Rattle.mv_linker.proofs.rules.acyclic.Dependencies.finished.Goals as goal

pub returns-then-gains_nothing : goal.returns-then-gains_nothing
returns-then-gains_nothing c =
    let s = c.args.self.now.scope.now in
    subst (λ n. AreFinished (modules_in s) n []) (length-map s.store.now (λ (p : PublishedModule). p.tables) ∙ sym c.len.ensures.count)
    (finished-first (tables_in s.store.now) (offered s.new.now) c.requires.store.once c.requires.store.links.ordered (c.gains_nothing.ensures.0 c.if-gains_nothing.true))
