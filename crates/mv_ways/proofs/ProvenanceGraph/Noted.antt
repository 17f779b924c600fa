-- What is noted of the first provenances, one by one, and what it says of references.
use Rattle.mv_edges.proofs.Common.{ℕ, ◌&&◌, ◌+◌, ◌<◌, ◌∙◌, ◌≡◌, ◌≤◌, Bool, List, Option, ap, arith, false, get_or, here, length, list_any, refl, subst, sym, take, true, set, agrees_if}
use Rattle.mv_ways.specs.Between.{any_between}
use Rattle.mv_edges.proofs.Common.{inl, inr, None, Some, slice_get, slice_get-get_or, cases_lt, list_any_at, take_all, Node}
use Rattle.std.proofs.Common.{get_or-set_other, get_or-set_same, ◌≢◌}
use Rattle.mv_edges.proofs.Comparisons.{agrees_first}
use Rattle.mv_ways.specs.declared.provenances.Reference.{Reference}
use Rattle.mv_ways.specs.declared.provenances.Provenance.{Provenance}
use Rattle.mv_ways.specs.declared.provenances.questions.Passing.{Passing}
use Rattle.mv_ways.specs.declared.provenances.questions.Passing.TheVariants.{Never, Here, Always}
use Rattle.mv_ways.specs.Origins.{Origin}
use Rattle.mv_ways.specs.Provenances.{ProvenanceGraph, all_origins, are_earlier, edges_of, goes_below, origins_at, origins_of}
use Rattle.mv_ways.specs.Asking.{AreNoted, SaysOf, origins_pass, lets_pass, lets_pass_here}
use Rattle.mv_ways.proofs.ProvenanceGraph.Listing.{earlier_at, origins_at-provenance}
use Rattle.mv_ways.proofs.ProvenanceGraph.Passes.{between_by_references}

-- the provenance at a place
pub provenance_at : (provenances : List Provenance) (place : ℕ) (provenance : Provenance) → place < length provenances → provenance ≡ get_or provenances place provenance → slice_get provenances place ≡ Some provenance
provenance_at provenances place provenance h at = slice_get-get_or provenances place provenance h ∙ ap Some (sym at)

-- goes over earlier ones alone
pub goes_below_at : (provenances : List Provenance) (place : ℕ) (provenance : Provenance) → are_earlier 0 provenances ≡ true → place < length provenances → provenance ≡ get_or provenances place provenance → goes_below place provenance ≡ true
goes_below_at provenances place provenance e h at =
    let same : 0 + place ≡ place = omega arith in
    subst (λ k. goes_below k provenance ≡ true) same (earlier_at provenances 0 e place provenance (provenance_at provenances place provenance h at))

-- one provenance more is noted
pub noted_more : (g : ProvenanceGraph) (from : Node → Bool) (position : Option ℕ) (noted : List Passing) (place : ℕ) (provenance : Provenance) (found : Passing) → are_earlier 0 g.provenances ≡ true
    → place < length g.provenances → place < length noted → provenance ≡ get_or g.provenances place provenance → AreNoted g from position place noted
    → SaysOf g.sources from position found (origins_of (all_origins g.provenances) provenance) → AreNoted g from position (place + 1) (set noted place found)
noted_more g from position noted place provenance found e h room at before new k d below =
    elim (cases_lt k place) [
      | inl less ↦
          let ne : k ≢ place = omega (arith, less) in
          subst (λ p. SaysOf g.sources from position p (origins_at (all_origins g.provenances) k)) (sym (get_or-set_other noted place k found d ne)) (before k d less)
      | inr last ↦
          let same : place ≡ k = omega (arith, last, below) in
          subst (λ j. SaysOf g.sources from position (get_or (set noted place found) j d) (origins_at (all_origins g.provenances) j)) same
          (subst (λ p. SaysOf g.sources from position p (origins_at (all_origins g.provenances) place)) (sym (get_or-set_same noted place found d room))
          (subst (SaysOf g.sources from position found) (sym (origins_at-provenance g.provenances e place provenance (provenance_at g.provenances place provenance h at))) new))
    ]

-- what passes with nothing behind it
pub passes_here : (position : Option ℕ) (p : Passing) → lets_pass position p here ≡ lets_pass_here p
passes_here position Never = refl
passes_here position Always = refl
passes_here position Here = by_position position
  where
    by_position : (o : Option ℕ) → agrees_if o here ≡ true
    by_position None = refl
    by_position (Some f) = agrees_first f here

-- what is noted says of nothing behind it what it says of some origins
pub noted_here : (sources : List (Option Node)) (from : Node → Bool) (position : Option ℕ) (p : Passing) (origins : List Origin) → SaysOf sources from position p origins
    → lets_pass_here p ≡ origins_pass sources from position here origins
noted_here sources from position p origins h = sym (passes_here position p) ∙ h here

module _ (g : ProvenanceGraph) (from to : Node → Bool) (position : Option ℕ) where
  abbrev pub leads_there : Reference → Bool
  leads_there r = to r.node && origins_pass g.sources from position here (origins_at (all_origins g.provenances) r.provenance)

  pub none_there : (i : ℕ) → length g.references ≤ i → list_any leads_there (take i g.references) ≡ false → false ≡ any_between from position to (edges_of g)
  none_there i end none = sym (between_by_references g from to position ∙ ap (list_any leads_there) (sym (take_all i g.references end)) ∙ none)

  pub one_there : (i : ℕ) (d : Reference) → i < length g.references → leads_there (get_or g.references i d) ≡ true → true ≡ any_between from position to (edges_of g)
  one_there i d inside h = sym (between_by_references g from to position ∙ list_any_at leads_there g.references i d inside h)
