use Rattle.std.proofs.Common.{ℕ, ◌<◌, map}
use Rattle.mv_frames.specs.Counters.{IsAt, struct_of}
use Rattle.mv_frames.proofs.counters.find_first.Given as goal

-- none of the tallies so far is the struct's
abbrev pub invariant-loop-place : goal.invariant-loop-place
invariant-loop-place l = (i : ℕ) → i < l.place → IsAt (map struct_of l.tallies) l.d i → ⊥
