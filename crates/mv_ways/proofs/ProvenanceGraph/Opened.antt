-- What a function returned is open, so that it leads to its fields as it does to itself.
use Rattle.mv_edges.proofs.Common.{[], ℕ, ◌++◌, ◌∙◌, ◌∷◌, ◌≡◌, List, ap, flat_map, refl, Label, extended, opened}
use Rattle.mv_ways.specs.declared.provenances.Provenance.TheVariants.{Returned}
use Rattle.mv_ways.specs.Origins.{Origin}
use Rattle.mv_ways.specs.Provenances.{an_origin, changed_origins, origins_at, origins_of}
use Rattle.std.proofs.Common.{Vec, Global}

changed-append : (change : Label → Label) (ls ks : List Origin) → changed_origins change (ls ++ ks) ≡ changed_origins change ls ++ changed_origins change ks
changed-append change [] ks = refl
changed-append change (l ∷ ls) ks = ap (λ ms. an_origin l.source (change l.label) ∷ ms) (changed-append change ls ks)

opened_stays : (f : ℕ) (ls : List Origin) → changed_origins (extended f) (changed_origins opened ls) ≡ changed_origins opened ls
opened_stays f [] = refl
opened_stays f (l ∷ ls) = ap (λ ms. an_origin l.source (opened l.label) ∷ ms) (opened_stays f ls)

-- the provenance of a field of what a function returned may be the provenance of what it returned
pub field_of_returned : (listed : List (List Origin)) (givers : Vec ℕ Global) (f : ℕ) → changed_origins (extended f) (origins_of listed (Returned givers)) ≡ origins_of listed (Returned givers)
field_of_returned listed givers f = each givers.items
  where
    each : (ks : List ℕ) → changed_origins (extended f) (flat_map (λ k. changed_origins opened (origins_at listed k)) ks) ≡ flat_map (λ k. changed_origins opened (origins_at listed k)) ks
    each [] = refl
    each (k ∷ ks) =
        changed-append (extended f) (changed_origins opened (origins_at listed k)) (flat_map (λ j. changed_origins opened (origins_at listed j)) ks)
        ∙ (λ i. opened_stays f (origins_at listed k) i ++ each ks i)

-- and so may that of what a function returned that had it alone
pub returned_again : (listed : List (List Origin)) (givers : Vec ℕ Global) → changed_origins opened (origins_of listed (Returned givers)) ≡ origins_of listed (Returned givers)
returned_again listed givers = each givers.items
  where
    again : (ls : List Origin) → changed_origins opened (changed_origins opened ls) ≡ changed_origins opened ls
    again [] = refl
    again (l ∷ ls) = ap (λ ms. an_origin l.source (opened l.label) ∷ ms) (again ls)

    each : (ks : List ℕ) → changed_origins opened (flat_map (λ k. changed_origins opened (origins_at listed k)) ks) ≡ flat_map (λ k. changed_origins opened (origins_at listed k)) ks
    each [] = refl
    each (k ∷ ks) =
        changed-append opened (changed_origins opened (origins_at listed k)) (flat_map (λ j. changed_origins opened (origins_at listed j)) ks)
        ∙ (λ i. again (origins_at listed k) i ++ each ks i)
