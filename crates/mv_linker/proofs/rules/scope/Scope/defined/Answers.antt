use Rattle.mv_linker.proofs.Common.{ℕ, ◌∙◌, ◌≡◌, None, ap, sym, ◌==◌, position, tables_in, offered, places_in}
use Rattle.mv_linker.proofs.Kept.HandleDefinitions.{old-there}
use Rattle.mv_linker.proofs.rules.scope.Scope.defined.Goals as goal

pub size-requires : goal.size-requires
size-requires c =
    let s = c.args.self.now in
    let d = c.args.d in
    let old = tables_in s.store.now in
    let ns = offered s.new.now in
    let none : position (λ p. p == d.place) (places_in old ns) ≡ None =
    ap (λ (q : ℕ). position (λ p. p == q) (places_in old ns)) (sym c.from.ensures) ∙ ap (position (λ p. p == c.from.result)) (sym s.placed) ∙ sym c.bundled.ensures ∙ c.in-None.is in
    old-there old ns d.place d.index none c.requires
