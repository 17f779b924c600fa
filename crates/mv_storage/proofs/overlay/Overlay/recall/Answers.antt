use Rattle.mv_storage.proofs.Common.{◌∙◌, ap, is_some, sym}
use Rattle.mv_storage.proofs.Undoing.{seen-in, seen-none}
use Rattle.mv_storage.proofs.overlay.Overlay.recall.Goals as goal

pub returns-in-Some-clause-found : goal.returns-in-Some-clause-found
returns-in-Some-clause-found c =
    let s = c.storage.inside in
    c.is_seen.ensures
    ∙ ap is_some (seen-in s.work.places s.undo.items s.marks _ c.args.key.now c.in-Some.place c.index.result.now c.storage.invariant.0.tracked.sound (sym c.in-Some.ensures.place) c.index.ensures c.storage.view_is)

pub returns-in-None-clause-found : goal.returns-in-None-clause-found
returns-in-None-clause-found c =
    let s = c.storage.inside in
    ap is_some (seen-none s.work.places s.undo.items s.marks _ c.args.key.now c.storage.invariant.0.tracked.sound (sym c.recall.ensures.place ∙ c.in-None.is) c.storage.view_is)
