use Rattle.mv_edges.proofs.Common.{◌≡◌, ◌++◌, ◌∷◌, [], ◌<◌, ◌≤◌, ℕ, Option, List, length, sorted, drop, option_map_or, suc, Edge}
use Rattle.std.specs.Prelude.{IfSome}
use Rattle.mv_ways.specs.Behind.{a_tail, edges_with}
use Rattle.mv_ways.specs.Derived.{all_derived}
use Rattle.mv_ways.specs.Provenances.{origins_at}
use Rattle.mv_ways.proofs.provenances.ProvenanceGraph.tell_derived.Given as goal

-- what was told, and what is derived for the next provenance by the positions so far, is what is derived for the last one
pub record Derivation {S : Type 0} (after : S → List Edge → S → Type 0) (old new : S) (by : List ℕ → ℕ → List Edge) (all : List Edge) (provenances at : ℕ) (path : List ℕ) (next : Option ℕ) : Type 0 where
  pub told : List Edge
  pub is_told : after old told new
  pub same : sorted (told ++ option_map_or (by path) next []) ≡ sorted all
  pub inside : IfSome next (λ k. k < provenances)
  pub room : IfSome next (λ k. k < at)

abbrev pub invariant-loop-next : goal.invariant-loop-next
invariant-loop-next g l =
    (l.at ≤ length l.room) × ((length l.room ≡ length l.fn.room)
    × Derivation g.S.Sink.after l.fn.sink l.sink
    (λ path k. edges_with l.self.sources l.to (origins_at (all_derived l.self.provenances) k) (a_tail (record { path = path; is_open = l.is_open }) ∷ []))
    (edges_with l.self.sources l.to (origins_at (all_derived l.self.provenances) l.fn.end) (a_tail (record { path = []; is_open = l.is_open }) ∷ []))
    (length l.self.provenances) l.at (drop l.at l.room) l.next)

abbrev pub decreases-loop-next : goal.decreases-loop-next
decreases-loop-next g l = option_map_or suc l.next 0
