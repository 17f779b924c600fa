use Rattle.mv_linker.proofs.Common.{[], ◌++◌, ◌+◌, ◌∙◌, ◌∷◌, ◌≡◌, All, All-push, IsPublishable, Kept, ap, map-append, published_in, published_of, published_one, subst, sym, take}
use Rattle.mv_linker.proofs.Common.{take_more}
use Rattle.mv_linker.proofs.store.entry.entries_of.Goals as goal

pub loop-n-preserved : goal.loop-n-preserved
loop-n-preserved c =
    let e = c.in_ok-entry_of.field-0 in
    let n = c.n-item.result in
    let before = take c.loop-n.n-index c.args.new.now in
    let pushed : published_in c.push.new.self.items ≡ published_in c.loop-n.entries.items ++ e.published ∷ [] =
    ap published_in c.in_ok-push.ensures.items ∙ map-append (λ (k : Kept). k.published) c.loop-n.entries.items (e ∷ []) in
    let taken : take (c.loop-n.n-index + 1) c.args.new.now ≡ before ++ n ∷ [] =
    take_more c.args.new.now c.loop-n.n-index n c.loop-n-test.true ∙ ap (λ x. before ++ x ∷ []) (sym c.n-item.is) in
    let same : published_in c.push.new.self.items ≡ published_of (take (c.loop-n.n-index + 1) c.args.new.now) =
    pushed ∙ ap (λ l. l ++ e.published ∷ []) c.loop-n.invariant.0 ∙ ap (λ p. published_of before ++ p ∷ []) c.in_ok-entry_of.ensures.value
    ∙ sym (map-append published_one before (n ∷ [])) ∙ sym (ap published_of taken) in
    let passed : IsPublishable e.published = subst IsPublishable (sym c.in_ok-entry_of.ensures.value) c.in_ok-entry_of.ensures.passed in
    (same, subst (λ l. All IsPublishable l) (sym pushed) (All-push IsPublishable (published_in c.loop-n.entries.items) e.published c.loop-n.invariant.1 passed))
