use Rattle.mv_edges.proofs.Common.{◌≡◌, take, true}
use Rattle.mv_move_types.specs.Paths.{begins}
use Rattle.mv_ways.proofs.provenances.told.Told.begins.Given as goal

-- the first positions do
abbrev pub invariant-loop-place : goal.invariant-loop-place
invariant-loop-place l = begins (take l.place l.self.label.path) l.other.label.path ≡ true
