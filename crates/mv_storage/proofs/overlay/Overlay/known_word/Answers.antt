use Rattle.mv_storage.proofs.Common.{◌∙◌, ◌≡◌, List, Option, Some, ap, option_and_then, slice_get, subst, sym, words_under, Current, ℕ}
use Rattle.std.specs.Prelude.{MatchOption}
use Rattle.mv_storage.specs.Map.{Layers}
use Rattle.mv_storage.proofs.Shown.{words_under-shown}
use Rattle.mv_storage.proofs.overlay.Overlay.known_word.Goals as goal

pub returns : goal.returns
returns c =
    let m = c.storage.inside.work.places in
    let k = c.args.key.now in
    subst (λ (found : Option (List ℕ)). MatchOption c.known_word.result (Unit {0}) (λ word. option_and_then (λ (words : List ℕ). slice_get words c.args.at) found ≡ Some word))
    (sym (words_under-shown Current m k c.storage.invariant.0.tracked.sound.ordered) ∙ ap (λ (l : Layers). words_under l.current k) c.storage.view_is) c.known_word.ensures
