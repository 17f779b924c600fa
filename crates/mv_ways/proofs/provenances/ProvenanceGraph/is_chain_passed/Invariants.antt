use Rattle.mv_edges.proofs.Common.{◌≡◌, ◌<◌, ◌≤◌, ℕ, Bool, Option, drop, length, option_map_or, suc, true}
use Rattle.std.specs.Prelude.{IfSome}
use Rattle.mv_ways.specs.Derived.{is_passed}
use Rattle.mv_ways.proofs.ProvenanceGraph.Covered.{is_under}
use Rattle.mv_ways.proofs.provenances.ProvenanceGraph.is_chain_passed.Given as goal

-- what is derived for the next provenance by the positions so far decides
pub record Deciding (by : ℕ → Bool) (all : Bool) (provenances at : ℕ) (next : Option ℕ) : Type 0 where
  pub same : option_map_or by next true ≡ all
  pub inside : IfSome next (λ k. k < provenances)
  pub room : IfSome next (λ k. k < at)

abbrev pub invariant-loop-next : goal.invariant-loop-next
invariant-loop-next l =
    (l.at ≤ length l.room) × ((length l.room ≡ length l.fn.room)
    × Deciding (is_under l.self l.to l.others (drop l.at l.room)) (is_passed l.self l.to l.others l.fn.end) (length l.self.provenances) l.at l.next)

abbrev pub decreases-loop-next : goal.decreases-loop-next
decreases-loop-next l = option_map_or suc l.next 0
