use Rattle.mv_storage.proofs.Common.{◌≡◌, length, shown, Committed}
use Rattle.mv_storage.proofs.entries.Entries.next.Given as goal

abbrev pub invariant-loop-key : goal.invariant-loop-key
invariant-loop-key l =
    (shown Committed l.initial.self-inside.slots.now l.initial.self-inside.places ≡ shown Committed l.self-inside.slots.now l.self-inside.places)
    × (l.self-inside.slots.now ≡ l.initial.self-inside.slots.now)

abbrev pub decreases-loop-key : goal.decreases-loop-key
decreases-loop-key l = length l.self-inside.places
