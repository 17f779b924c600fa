use Rattle.mv_storage.proofs.Common.{◌∙◌, List, ap, option_and_then, slice_get, sym, ℕ}
use Rattle.mv_storage.proofs.Undoing.{seen-in, seen-none}
use Rattle.mv_storage.proofs.overlay.Overlay.word.Goals as goal

pub returns-in-Some-clause-word : goal.returns-in-Some-clause-word
returns-in-Some-clause-word c =
    let s = c.storage.inside in
    c.word.ensures
    ∙ ap (option_and_then (λ (ws : List ℕ). slice_get ws c.args.at))
    (seen-in s.work.places s.undo.items s.marks _ c.args.key.now c.in-Some.place c.index.result.now c.storage.invariant.0.tracked.sound (sym c.in-Some.ensures.place) c.index.ensures c.storage.view_is)

pub returns-in-None-clause-word : goal.returns-in-None-clause-word
returns-in-None-clause-word c =
    let s = c.storage.inside in
    ap (option_and_then (λ (ws : List ℕ). slice_get ws c.args.at))
    (seen-none s.work.places s.undo.items s.marks _ c.args.key.now c.storage.invariant.0.tracked.sound (sym c.recall.ensures.place ∙ c.in-None.is) c.storage.view_is)
