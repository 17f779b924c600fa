use Rattle.mv_linker.proofs.Common.{ℕ, ◌-◌, ◌==◌, ◌∙◌, ◌≡◌, List, Some, ap, offered, position, slice_get, sym, tables_in}
use Rattle.mv_linker.proofs.Joining.PlacedApart.{first-placed}
use Rattle.mv_linker.proofs.rules.scope.Scope.bundled.Goals as goal

pub returns-then-stands_at : goal.returns-then-stands_at
returns-then-stands_at c =
    let s = c.args.self.now in
    let k = c.args.place - c.len-count.result in
    let stands : slice_get s.places.items k ≡ Some c.args.place = c.stands_at.ensures c.if-stands_at.true in
    sym (ap (position (λ p. p == c.args.place)) s.placed
    ∙ first-placed (tables_in s.store.now) (offered s.new.now) s.once s.named k c.args.place (sym (ap (λ (l : List ℕ). slice_get l k) s.placed) ∙ stands))
