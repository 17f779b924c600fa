-- Origins: where edges come from.
use Rattle.std.specs.Prelude.{ℕ}
use Rattle.mv_edges.specs.Edges.{Label}

-- where an edge comes from, by the source's number, and its label
pub record Origin : Type 0 where
  pub source : ℕ
  pub label : Label
