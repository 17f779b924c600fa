use Rattle.mv_linker.proofs.Common.{[], ◌&&◌, ◌++◌, ◌+◌, ◌∙◌, ◌∷◌, ◌≡◌, ap, subst, sym, take, take_more}
use Rattle.mv_linker.proofs.Kept.IndexLemmas.{SeenSoFar, seen-more}
use Rattle.mv_linker.proofs.rules.are_distinct.Goals.{else-differ, then-differ}
use Rattle.mv_linker.proofs.rules.are_distinct.Goals as goal

pub loop-i-preserved : goal.loop-i-preserved
loop-i-preserved c =
    let k = c.index-added-i.result in
    let taken : take (c.loop-i.i + 1) c.args.added.now ≡ take c.loop-i.i c.args.added.now ++ k ∷ [] =
    take_more c.args.added.now c.loop-i.i k c.loop-i-test.true ∙ ap (λ x. take c.loop-i.i c.args.added.now ++ x ∷ []) (sym c.index-added-i.is) in
    let next : c.if-differ.differ ≡ (c.loop-i.differ && c.in_ok-is_new.is_new) = elim c.if-differ.branch [
      | then-differ w ↦ w.differ-is ∙ ap (λ b. b && c.in_ok-is_new.is_new) (sym w.if-differ.true)
      | else-differ w ↦ w.differ-is ∙ w.if-differ.false ∙ ap (λ b. b && c.in_ok-is_new.is_new) (sym w.if-differ.false)
    ] in
    subst (λ l. SeenSoFar c.put_name.new.names.entries l c.if-differ.differ) (sym taken)
    (seen-more c.loop-i.names.entries c.put_name.new.names.entries (take c.loop-i.i c.args.added.now) k c.key.result c.loop-i.differ c.in_ok-is_new.is_new c.if-differ.differ
    c.loop-i.invariant c.in_ok-is_new.ensures.put c.in_ok-is_new.ensures.new c.key.ensures next)
