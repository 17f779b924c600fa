use Rattle.mv_linker.proofs.Common.{◌∙◌, ◌≡◌, New, PublishedModule, Some, ap, arith, length, length-map, may_replace, offered, places_in, refl, replaced_in, same_Some, slice_get, slice_get_read, subst, sym, tables_in}
use Rattle.mv_linker.proofs.Joining.Assembling.{offered-at}
use Rattle.mv_linker.proofs.Joining.Compatible.{follows-at, follows-none}
use Rattle.mv_linker.proofs.Joining.Joins.{placed-length}
use Rattle.mv_linker.proofs.Joining.Replaced.{replaced-low, replaced-none}
use Rattle.mv_linker.proofs.Joining.Upgrades.{kept-of, replaced-module}
use Rattle.mv_linker.proofs.rules.scope.Scope.follows.Goals as goal
use Rattle.mv_linker.proofs.rules.scope.Scope.follows.Goals.{After-index-place}

-- the place of this module
place-here : (c : After-index-place) → slice_get (places_in (tables_in c.args.self.now.store.now) (offered c.args.self.now.new.now)) c.args.k ≡ Some c.index-place.result.now
place-here c =
    let s = c.args.self.now in
    subst (λ ps. slice_get ps c.args.k ≡ Some c.index-place.result.now) s.placed
    (slice_get_read s.places.items (length s.places.items) c.args.k c.index-place.result.now refl (omega (arith, placed-length s, c.requires.there)) c.index-place.ensures)

pub index-place-requires : goal.index-place-requires
index-place-requires c = omega (arith, placed-length c.args.self.now, c.args.self.now.places.ok.0, c.requires.there)

pub returns-then-place-len : goal.returns-then-place-len
returns-then-place-len c n at =
    let s = c.args.self.now in
    sym (follows-none (tables_in s.store.now) n
    (sym (replaced-none (tables_in s.store.now) (offered s.new.now) c.args.k c.index-place.result.now n s.named s.once at (place-here (goal.at.returns-then-place-len c).After-index-place)
    (omega (arith, c.if-place-len.true, c.len.ensures.count, length-map s.store.now (λ (p : PublishedModule). p.tables))))))

pub of-requires : goal.of-requires
of-requires c = omega (arith, c.if-place-len.false, c.len.ensures.count)

pub returns : goal.returns
returns c n at =
    let s = c.args.self.now in
    let place = c.index-place.result.now in
    let is : replaced_in (tables_in s.store.now) n ≡ Some place =
    sym (replaced-low (tables_in s.store.now) (offered s.new.now) c.args.k place n s.named s.once at (place-here (goal.at.returns c).After-index-place)
    (omega (arith, c.if-place-len.false, c.len.ensures.count, length-map s.store.now (λ (p : PublishedModule). p.tables)))) in
    let m = replaced-module s.store.now n place is in
    let old = c.of.result in
    let m_at : slice_get (tables_in old.store.now) old.place ≡ Some m.0 = rw (c.of.ensures.store, c.of.ensures.place) m.1 in
    let kept = kept-of (tables_in old.store.now) old.place old.interface.now m.0 c.of.ensures.kept m_at in
    let new : slice_get s.new.now c.args.k ≡ Some c.index-self-k.result = slice_get_read s.new.now (length s.new.now) c.args.k c.index-self-k.result refl c.requires.there c.index-self-k.is in
    let same : c.module-n.result.now ≡ n = c.module-n.ensures.value ∙ ap (λ (x : New). x.module) (sym c.index-self-k.is) ∙ same_Some c.index-self-k.result.module n (sym (offered-at s.new.now c.args.k c.index-self-k.result new) ∙ at) in
    c.may_be_replaced.ensures m.0 m_at kept.0 kept.1 ∙ ap (may_replace m.0) same ∙ sym (follows-at (tables_in s.store.now) n place m.0 is m.1)
