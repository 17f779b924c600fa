-- Origins with an open label above them: what is noted of them, and what that saves.
use Rattle.mv_edges.proofs.Common.{[], ℕ, ◌&&◌, ◌++◌, ◌+◌, ◌<◌, ◌∙◌, ◌∷◌, ◌≡◌, ◌≤◌, Bool, List, None, Option, Some, ap, append-nil, arith, false, flat_map, get_or, inl, inr, length, option_map_or, refl, slice_get, subst, sym, take, true}
use Rattle.mv_edges.proofs.Common.{Node, Edge, edges_leq}
use Rattle.std.specs.Prelude.{replicate}
use Rattle.std.proofs.lemmas.List.{get_or-replicate, length-replicate}
use Rattle.std.proofs.lemmas.Option.{same_Some, slice_get_within}
use Rattle.mv_edges.proofs.AsSets.{leq-sorted}
use Rattle.mv_ways.specs.Behind.{begun_edges, edges_with, edges_from, tail_edges}
use Rattle.mv_ways.specs.Covered.{AreCovered, IsCovered, IsNoted, open_tail, stated}
use Rattle.mv_ways.specs.Derived.{all_derived, derived_of, path_before}
use Rattle.mv_ways.specs.Going.{original}
use Rattle.mv_ways.specs.Origins.{Origin}
use Rattle.mv_ways.specs.Sinks.{leq_append}
use Rattle.mv_ways.specs.Provenances.{ProvenanceGraph, are_earlier, origins_at, most_provenances}
use Rattle.mv_ways.specs.declared.provenances.Provenance.{Provenance}
use Rattle.mv_ways.specs.declared.provenances.under.covered.Covered.{Covered}
use Rattle.mv_ways.proofs.ProvenanceGraph.Derived.{derived_step, led_more, tail_before, tail_path}
use Rattle.mv_ways.proofs.ProvenanceGraph.DerivedListing.{derived_at-provenance}
use Rattle.mv_ways.proofs.ProvenanceGraph.Under.{origin_on}

module _ (g : ProvenanceGraph) (to : Node) (others : List Edge) where
  -- one more is noted
  pub noted_more : (old new : List Covered) (provenance origin : ℕ) → length new ≡ length old → IsNoted old new provenance origin → IsCovered g to others provenance origin → AreCovered g to others old → AreCovered g to others new
  noted_more old new provenance origin long noted is all n d inside =
      let within : n < length old = omega (arith, inside, long) in
      elim (noted n d within) [
        | inl same ↦ subst (λ (e : Covered). IsCovered g to others e.provenance e.origin) (sym same) (all n d within)
        | inr here ↦ subst (λ w. IsCovered g to others w (get_or new n d).origin) (sym here.0) (subst (λ i. IsCovered g to others provenance i) (sym here.1) is)
      ]

  -- none is
  pub none_noted : (count : ℕ) → length g.provenances ≤ most_provenances → AreCovered g to others (replicate count (record { provenance = 65535; origin = 0 }))
  none_noted count few n d inside provenance origin at there =
      let none : Covered = record { provenance = 65535; origin = 0 } in
      let within : n < count = omega (arith, inside, length-replicate count none) in
      let here : slice_get g.provenances 65535 ≡ Some provenance = subst (λ (e : Covered). slice_get g.provenances e.provenance ≡ Some provenance) (get_or-replicate count n none d within) at in
      let low = slice_get_within g.provenances 65535 provenance here in
      let bound : length g.provenances ≤ 8320 = few in
      absurd (omega (arith, low, bound))

  -- an origin that was asked for is covered
  pub origin_covered : (place index : ℕ) (origins : List Origin) (origin : Origin) → ((provenance : Provenance) → slice_get g.provenances place ≡ Some provenance → stated provenance ≡ origins) → slice_get origins index ≡ Some origin
      → edges_leq (tail_edges g.sources to origin (open_tail [])) others ≡ true → IsCovered g to others place index
  origin_covered place index origins origin there at holds provenance l is found =
      let same : origin ≡ l = same_Some origin l (sym at ∙ ap (λ ls. slice_get ls index) (sym (there provenance is)) ∙ found) in
      subst (λ x. edges_leq (edges_from g.sources to (open_tail [] ∷ []) x) others ≡ true) same
      (ap (λ es. edges_leq es others) (append-nil (tail_edges g.sources to origin (open_tail []))) ∙ holds)

  -- and one that is noted is, whatever is behind it
  pub noted_covered : (entries : List Covered) (n place index : ℕ) (path : List ℕ) (provenance : Provenance) (origin : Origin) → AreCovered g to others entries → n < length entries
      → ((d : Covered) → (get_or entries n d).provenance ≡ place) → ((d : Covered) → (get_or entries n d).origin ≡ index)
      → slice_get g.provenances place ≡ Some provenance → slice_get (stated provenance) index ≡ Some origin → edges_leq (edges_from g.sources to (open_tail path ∷ []) origin) others ≡ true
  noted_covered entries n place index path provenance origin all inside its_provenance its_origin at there =
      let d : Covered = record { provenance = 0; origin = 0 } in
      origin_on g.sources to path origin others
      (all n d inside provenance origin (subst (λ k. slice_get g.provenances k ≡ Some provenance) (sym (its_provenance d)) at) (subst (λ k. slice_get (stated provenance) k ≡ Some origin) (sym (its_origin d)) there))

-- one origin more
pub origins_more : (f : Origin → List Edge) (others : List Edge) (origins : List Origin) (i : ℕ) (d : Origin) → i < length origins
    → edges_leq (flat_map f (take (i + 1) origins)) others ≡ (edges_leq (flat_map f (take i origins)) others && edges_leq (f (get_or origins i d)) others)
origins_more f others origins i d inside = ap (λ es. edges_leq es others) (led_more f origins i d inside) ∙ leq_append (flat_map f (take i origins)) (f (get_or origins i d)) others

pub all_and_not : (a b : Bool) → b ≡ false → (a && b) ≡ false
all_and_not true b h = h
all_and_not false b h = refl

-- ---- down a chain

leq_option : (F : ℕ → List Edge) (others : List Edge) (o : Option ℕ) → edges_leq (option_map_or F o []) others ≡ option_map_or (λ k. edges_leq (F k) others) o true
leq_option F others None = refl
leq_option F others (Some k) = refl

-- whether what is derived for a provenance, with positions behind it, is below others
abbrev pub is_under : ProvenanceGraph → Node → List Edge → List ℕ → ℕ → Bool
is_under g to others path k = edges_leq (edges_with g.sources to (origins_at (all_derived g.provenances) k) (open_tail path ∷ [])) others

module _ (g : ProvenanceGraph) (to : Node) (others : List Edge) (earlier : are_earlier 0 g.provenances ≡ true) where
  pub chain_on : (place : ℕ) (provenance : Provenance) (path : List ℕ) → slice_get g.provenances place ≡ Some provenance
      → is_under g to others path place ≡ (edges_leq (begun_edges g.sources to provenance (open_tail path ∷ [])) others && option_map_or (is_under g to others (path_before provenance path)) (original provenance) true)
  chain_on place provenance path at =
      let t = open_tail path in
      let begun = begun_edges g.sources to provenance (t ∷ []) in
      let F : ℕ → List Edge = λ k. edges_with g.sources to (origins_at (all_derived g.provenances) k) (tail_before provenance t ∷ []) in
      let rest = option_map_or F (original provenance) [] in
      ap (λ ls. edges_leq (edges_with g.sources to ls (t ∷ [])) others) (derived_at-provenance g.provenances earlier place provenance at)
      ∙ sym (leq-sorted (edges_with g.sources to (derived_of (all_derived g.provenances) provenance) (t ∷ [])) others)
      ∙ ap (λ es. edges_leq es others) (sym (derived_step g.sources to (all_derived g.provenances) provenance t))
      ∙ leq-sorted (begun ++ rest) others
      ∙ leq_append begun rest others
      ∙ ap (λ b. edges_leq begun others && b) (leq_option F others (original provenance)
      ∙ ap (λ u. option_map_or (λ k. edges_leq (edges_with g.sources to (origins_at (all_derived g.provenances) k) (u ∷ [])) others) (original provenance) true) (tail_path provenance path true))
