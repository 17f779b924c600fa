-- Where no edge leads from some nodes to others: no source is at one of these, or no reference is one of those.
use Rattle.mv_edges.proofs.Common.{[], ℕ, zero, suc, ◌&&◌, ◌||◌, ◌∙◌, ◌∷◌, ◌≡◌, Bool, List, None, Option, Some, ap, false, list_any, option_map_or, or_parts, refl, slice_get, subst, Node, agrees_if, composed, here}
use Rattle.mv_ways.specs.Between.{any_between}
use Rattle.std.proofs.Math.Bool.{and-false}
use Rattle.mv_ways.specs.declared.provenances.Reference.{Reference}
use Rattle.mv_ways.specs.Origins.{Origin}
use Rattle.mv_ways.specs.Asking.{comes_from, origins_pass}
use Rattle.mv_ways.specs.Provenances.{ProvenanceGraph, all_origins, edges_of, origins_at}
use Rattle.mv_ways.proofs.ProvenanceGraph.Passes.{between_by_references}

-- where none passes, the one at a place doesn't
none_at : {X : Type 0} (p : X → Bool) (xs : List X) (k : ℕ) (x : X) → list_any p xs ≡ false → slice_get xs k ≡ Some x → p x ≡ false
none_at p [] k x none at = cc
none_at p (y ∷ ys) zero x none at = let same : y ≡ x = cc in subst (λ z. p z ≡ false) same (or_parts (p y) (list_any p ys) none).0
none_at p (y ∷ ys) (suc k) x none at = none_at p ys k x (or_parts (p y) (list_any p ys) none).1 at

module _ (g : ProvenanceGraph) (from to : Node → Bool) (position : Option ℕ) where
  -- no origin comes from a source that is one of the nodes
  comes_from-none : list_any (λ source. option_map_or from source false) g.sources ≡ false → (number : ℕ) → comes_from g.sources from number ≡ false
  comes_from-none none number = by_place (slice_get g.sources number) refl
    where
      by_place : (o : Option (Option Node)) → slice_get g.sources number ≡ o → option_map_or from (option_map_or (λ s. s) o None) false ≡ false
      by_place None e = refl
      by_place (Some s) e = none_at (λ source. option_map_or from source false) g.sources number s none e

  origins_pass-none : list_any (λ source. option_map_or from source false) g.sources ≡ false → (origins : List Origin) → origins_pass g.sources from position here origins ≡ false
  origins_pass-none none [] = refl
  origins_pass-none none (l ∷ ls) = (λ i. comes_from-none none l.source i && agrees_if position (composed l.label here) || origins_pass-none none ls i)

  pub sourceless : list_any (λ source. option_map_or from source false) g.sources ≡ false → any_between from position to (edges_of g) ≡ false
  sourceless none = between_by_references g from to position ∙ each g.references
    where
      each : (rs : List Reference) → list_any (λ (r : Reference). to r.node && origins_pass g.sources from position here (origins_at (all_origins g.provenances) r.provenance)) rs ≡ false
      each [] = refl
      each (r ∷ rs) =
          (λ i. to r.node && origins_pass-none none (origins_at (all_origins g.provenances) r.provenance) i || each rs i)
          ∙ ap (λ b. b || false) (and-false (to r.node))

  pub unreferred : list_any (λ (r : Reference). to r.node) g.references ≡ false → any_between from position to (edges_of g) ≡ false
  unreferred none = between_by_references g from to position ∙ each g.references none
    where
      each : (rs : List Reference) → list_any (λ (r : Reference). to r.node) rs ≡ false
          → list_any (λ (r : Reference). to r.node && origins_pass g.sources from position here (origins_at (all_origins g.provenances) r.provenance)) rs ≡ false
      each [] h = refl
      each (r ∷ rs) h =
          let parts = or_parts (to r.node) (list_any (λ (x : Reference). to x.node) rs) h in
          (λ i. parts.0 i && origins_pass g.sources from position here (origins_at (all_origins g.provenances) r.provenance) || each rs parts.1 i)
