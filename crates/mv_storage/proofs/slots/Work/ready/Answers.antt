use Rattle.mv_storage.proofs.Common.{◌∙◌, ◌≡◌, Some, ap, inl, is_some, option_and_then, refl, layer_at, slot_at, Current}
use Rattle.mv_storage.specs.WordLists.{piece}
use Rattle.mv_storage.proofs.PlaceLemmas.{place-read}
use Rattle.mv_storage.proofs.Steps.{slot-read}
use Rattle.mv_storage.proofs.slots.Work.ready.Goals as goal

pub returns-then-is_ready-clause-own : goal.returns-then-is_ready-clause-own
returns-then-is_ready-clause-own c =
    let m = c.args.self.now.places in
    let s = c.index.result.now in
    let at = c.in_ok-place.ensures in
    (at, (s, place-read m c.args.key.now c.in_ok-place.place s c.requires.tracked.sound (inl at) c.index.ensures, c.if-is_ready.ensures.own refl))

pub returns-then-is_ready-clause-there : goal.returns-then-is_ready-clause-there
returns-then-is_ready-clause-there c is =
    let m = c.args.self.now.places in
    let s = c.index.result.now in
    let here : slot_at m c.args.key.now ≡ Some s = slot-read m c.args.key.now c.in_ok-place.place s c.requires.tracked.sound c.in_ok-place.ensures c.index.ensures in
    ap (λ o. is_some (option_and_then (piece c.args.from c.args.width) (layer_at Current o))) here ∙ c.if-is_ready.ensures.there refl
