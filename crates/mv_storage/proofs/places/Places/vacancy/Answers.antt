use Rattle.mv_storage.proofs.Common.{◌∙◌, ◌≡◌, Some, ap, refl, slice_get, Vacant}
use Rattle.mv_storage.proofs.PlaceLemmas.{pushed-same, pushed-sound, slice_get-push_last}
use Rattle.mv_storage.proofs.places.Places.vacancy.Goals as goal

pub returns-clause-sound : goal.returns-clause-sound
returns-clause-sound c = pushed-sound c.args.self.now _ (Vacant c.args.self.now.free) c.requires refl c.in_ok-push.ensures.items

pub returns-clause-same : goal.returns-clause-same
returns-clause-same c =
    let m = c.args.self.now in
    λ q. pushed-same m (record { tree = m.tree; slots = c.push.new.self; nothing = m.nothing; free = c.len-place.result }) (Vacant m.free) c.requires refl c.in_ok-push.ensures.items q

pub returns-clause-vacant : goal.returns-clause-vacant
returns-clause-vacant c =
    let m = c.args.self.now in
    let at : slice_get c.push.new.self.items c.len-place.result ≡ Some (Vacant m.free) =
    ap (λ xs. slice_get xs c.len-place.result) c.in_ok-push.ensures.items
    ∙ ap (slice_get _) (c.len-place.ensures ∙ m.slots.ok.0) ∙ slice_get-push_last m.slots.items (Vacant m.free) in
    (Vacant m.free, at, refl)
