use Rattle.mv_binary_format.proofs.Common.{[], ◌∙◌, ◌∷◌, ◌≡◌, ap, refl, subst, sym, true, HasText}
use Rattle.mv_binary_format.specs.Held.{tables_held}
use Rattle.std.specs.Prelude.{length}
use Rattle.std.specs.Result.{is_ok}
use Rattle.mv_binary_format.proofs.module.Module.of.Goals as goal

pub invariant_of-result : goal.invariant_of-result
invariant_of-result c =
    let ok : is_ok c.push.result ≡ true = sym c.map_err.ensures.variant ∙ ap is_ok c.in_ok-map_err.was in
    let pushed : c.push.new.self.items ≡ c.args.all ∷ [] = rw (c.push.ensures.items, ok, c.in_ok-parts.ensures.items) refl in
    (ap length pushed, subst (λ ps. HasText (tables_held ps)) (sym pushed) c.requires)

pub returns-clause-ok : goal.returns-clause-ok
returns-clause-ok c =
    let ok : is_ok c.push.result ≡ true = sym c.map_err.ensures.variant ∙ ap is_ok c.in_ok-map_err.was in
    let pushed : c.push.new.self.items ≡ c.args.all ∷ [] = rw (c.push.ensures.items, ok, c.in_ok-parts.ensures.items) refl in
    ap tables_held pushed
