use Rattle.mv_storage.proofs.Common.{◌∙◌, ap, is_some, Committed, Current}
use Rattle.mv_storage.proofs.SlotReads.{place-within}
use Rattle.mv_storage.proofs.Undoing.{over, seen-in, stepped, Stepped}
use Rattle.mv_storage.proofs.overlay.Overlay.claim.Goals as goal
use Rattle.mv_storage.proofs.overlay.Overlay.claim.Goals.{After-place_for}

-- what is left where the key has its place, or no memory for one
left : (c : After-place_for) → Stepped c.storage.inside.work c.place_for.new.self c.storage.inside.undo.items c.storage.inside.marks c.args.self.now.storage.now
left c = stepped c.storage.inside.work c.place_for.new.self c.storage.inside.undo.items c.storage.inside.marks _ c.storage.invariant c.place_for.ensures.at_work c.place_for.ensures.pinned (c.place_for.ensures.same Committed) c.storage.view_is

pub returns-clause-found : goal.returns-clause-found
returns-clause-found c =
    let s = c.storage.inside in
    let now = c.place_for.ensures.at_work.tracked.sound in
    c.is_seen.ensures
    ∙ ap is_some (seen-in c.place_for.new.self.places s.undo.items s.marks _ c.args.key.now c.in_ok-place.place c.index.result.now now c.in_ok-place.ensures.at c.index.ensures ((left (goal.at.returns-clause-found c).After-place_for).same (c.place_for.ensures.same Current)))

pub returns-clause-same : goal.returns-clause-same
returns-clause-same c = ap (over c.args.self.now) ((left (goal.at.returns-clause-same c).After-place_for).same (c.place_for.ensures.same Current))

pub invariant_of-storage-2 : goal.invariant_of-storage-2
invariant_of-storage-2 c = (left (goal.at.invariant_of-storage-2 c).After-place_for).holds

-- the place is in the list
pub index-requires : goal.index-requires
index-requires c = place-within c.place_for.new.self.places c.args.key.now c.in_ok-place.place c.place_for.ensures.at_work.tracked.sound c.in_ok-place.ensures.at

pub returns-in_err-place-clause-same : goal.returns-in_err-place-clause-same
returns-in_err-place-clause-same c = ap (over c.args.self.now) ((left (goal.at.returns-in_err-place-clause-same c).After-place_for).same (c.place_for.ensures.same Current))

pub invariant_of-storage : goal.invariant_of-storage
invariant_of-storage c = (left (goal.at.invariant_of-storage c).After-place_for).holds
