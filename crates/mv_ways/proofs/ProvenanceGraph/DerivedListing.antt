-- What is derived for each provenance stands at its place.
use Rattle.std.proofs.Common.{◌≡◌, ℕ, ◌<◌, true, Some, None, slice_get, List, [], ◌∷◌, ◌++◌, refl, ap}
use Rattle.std.proofs.lemmas.Bool.{ltb-true}
use Rattle.mv_edges.specs.Edges.{here, extended}
use Rattle.mv_ways.specs.Origins.{Origin}
use Rattle.mv_ways.specs.declared.provenances.Provenance.{Provenance}
use Rattle.mv_ways.specs.declared.provenances.Provenance.TheVariants.{Stated, Lent, Field, Returned}
use Rattle.mv_ways.specs.Provenances.{an_origin, are_earlier, changed_origins, goes_below, origins_at}
use Rattle.mv_ways.specs.Derived.{all_derived, derived_of}
use Rattle.mv_ways.proofs.ProvenanceGraph.Folded.{at_provenance}

-- what is derived for a provenance, by two lists that agree below a place, where it goes over provenances below it alone
derived_of-alike : (listed others : List (List Origin)) (place : ℕ) → ((k : ℕ) → k < place → origins_at listed k ≡ origins_at others k) → (provenance : Provenance) → goes_below place provenance ≡ true
    → derived_of listed provenance ≡ derived_of others provenance
derived_of-alike listed others place same (Stated origins) h = refl
derived_of-alike listed others place same (Lent source None) h = refl
derived_of-alike listed others place same (Lent source (Some k)) h = ap (λ ls. ls ++ an_origin source here ∷ []) (same k (ltb-true k place h))
derived_of-alike listed others place same (Field over position) h = ap (changed_origins (extended position)) (same over (ltb-true over place h))
derived_of-alike listed others place same (Returned provenances) h = refl

pub derived_at-provenance : (provenances : List Provenance) → are_earlier 0 provenances ≡ true → (i : ℕ) (provenance : Provenance) → slice_get provenances i ≡ Some provenance → origins_at (all_derived provenances) i ≡ derived_of (all_derived provenances) provenance
derived_at-provenance = at_provenance derived_of derived_of-alike
