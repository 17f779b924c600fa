use Rattle.mv_storage.proofs.Common.{◌≡◌, length}
use Rattle.mv_storage.specs.Difference.{told}
use Rattle.mv_storage.proofs.changes.Changes.next.Given as goal

-- what was left to tell is what is left to tell
abbrev pub invariant-loop-key : goal.invariant-loop-key
invariant-loop-key l =
    (told l.initial.self-inside.undo.now l.initial.self-inside.places.now l.initial.self-inside.firsts ≡ told l.self-inside.undo.now l.self-inside.places.now l.self-inside.firsts)
    × (l.self-inside.undo.now ≡ l.initial.self-inside.undo.now)
    × (l.self-inside.places.now ≡ l.initial.self-inside.places.now)

abbrev pub decreases-loop-key : goal.decreases-loop-key
decreases-loop-key l = length l.self-inside.firsts
