use Rattle.mv_edges.proofs.Common.{◌≡◌, length, take}
use Rattle.mv_ways.proofs.provenances.told.Told.short_edge.Given as goal

-- the first positions were copied
abbrev pub invariant-loop-place : goal.invariant-loop-place
invariant-loop-place l = record {
  room : length l.room ≡ 8;
  same : take l.place l.room ≡ take l.place l.self.label.path;
}
