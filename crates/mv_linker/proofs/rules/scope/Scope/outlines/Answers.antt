use Rattle.mv_linker.proofs.Common.{[], ◌++◌, ◌+◌, ◌∙◌, ◌∷◌, ◌≡◌, AreOutlines, InBounds, IsOutline, List, Module, New, Some, ap, length, offered, refl, slice_get, slice_get_read, subst, sym, take, take_all, take_more}
use Rattle.mv_linker.proofs.Joining.Assembling.{offered-among}
use Rattle.mv_linker.proofs.Joining.FoundLemmas.{more-outlines, no-outlines}
use Rattle.mv_linker.proofs.Joining.Joins.{fitting}
use Rattle.mv_linker.proofs.rules.scope.Scope.outlines.Goals as goal

pub loop-i-init : goal.loop-i-init
loop-i-init c = no-outlines c.args.self.now.new.now c.in_ok-outlines.outlines.items c.in_ok-outlines.ensures.items

pub loop-i-preserved : goal.loop-i-preserved
loop-i-preserved c =
    let s = c.args.self.now in
    let new = s.new.now in
    let n = c.index-self-i.result in
    let here : slice_get new c.loop-i.i ≡ Some n = slice_get_read new (length new) c.loop-i.i n refl c.loop-i-test.true c.index-self-i.is in
    let taken : take (c.loop-i.i + 1) new ≡ take c.loop-i.i new ++ n ∷ [] = take_more new c.loop-i.i n c.loop-i-test.true ∙ ap (λ x. take c.loop-i.i new ++ x ∷ []) (sym c.index-self-i.is) in
    let same : c.module.result.now ≡ n.module = c.module.ensures.value ∙ ap (λ (x : New). x.module) (sym c.index-self-i.is) in
    let bounds : InBounds n.module = (fitting s c.requires).new_bounds n.module (offered-among new c.loop-i.i n here) in
    more-outlines new c.loop-i.outlines.items c.push.new.self.items c.loop-i.i n c.in_ok-outline.outline c.loop-i.invariant taken c.in_ok-push.ensures.items
    (subst (λ (m : Module). IsOutline m c.in_ok-outline.outline) same (c.in_ok-outline.ensures (subst InBounds (sym same) bounds)))

pub returns : goal.returns
returns c =
    let new = c.args.self.now.new.now in
    subst (λ (l : List New). AreOutlines (offered l) c.loop-i.outlines.items) (take_all c.loop-i.i new c.loop-i-test.false) c.loop-i.invariant
