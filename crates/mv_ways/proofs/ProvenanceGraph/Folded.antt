-- What is made of each provenance by what is made of earlier ones stands at its place.
use Rattle.std.proofs.Common.{◌≡◌, ℕ, zero, suc, ◌+◌, ◌<◌, true, Some, slice_get, List, [], ◌∷◌, ◌++◌, length, get_or, fold, refl, sym, ap, ◌∙◌, arith}
use Rattle.std.proofs.lemmas.Bool.{and_parts}
use Rattle.std.proofs.lemmas.List.{length-append}
use Rattle.std.proofs.Math.ListN.{get_or-append}
use Rattle.std.proofs.Math.Seq.{get_or-append_seam}
use Rattle.mv_ways.specs.declared.provenances.Provenance.{Provenance}
use Rattle.mv_ways.specs.Provenances.{are_earlier, goes_below}

module _ {X : Type 0} (f : List (List X) → Provenance → List X)
    (alike : (listed others : List (List X)) (place : ℕ) → ((k : ℕ) → k < place → get_or listed k [] ≡ get_or others k []) → (provenance : Provenance) → goes_below place provenance ≡ true → f listed provenance ≡ f others provenance) where
  abbrev with_one : List (List X) → Provenance → List (List X)
  with_one listed provenance = listed ++ f listed provenance ∷ []

  kept : (listed : List (List X)) (provenances : List Provenance) (k : ℕ) → k < length listed → get_or (fold with_one listed provenances) k [] ≡ get_or listed k []
  kept listed [] k h = refl
  kept listed (provenance ∷ provenances) k h =
      kept (with_one listed provenance) provenances k (let more = length-append listed (f listed provenance ∷ []) in omega (arith, h, more))
      ∙ get_or-append listed (f listed provenance ∷ []) [] k h

  from_place : (listed : List (List X)) (provenances : List Provenance) (place : ℕ) → place ≡ length listed → are_earlier place provenances ≡ true
      → (i : ℕ) (provenance : Provenance) → slice_get provenances i ≡ Some provenance
      → get_or (fold with_one listed provenances) (place + i) [] ≡ f (fold with_one listed provenances) provenance
  from_place listed [] place h e i provenance at = cc at
  from_place listed (w ∷ provenances) place h e zero provenance at =
      let same : w ≡ provenance = cc at in
      let parts = and_parts (goes_below place w) (are_earlier (place + 1) provenances) e in
      let all = fold with_one (with_one listed w) provenances in
      let more = length-append listed (f listed w ∷ []) in
      let here_at : place + 0 ≡ length listed = omega (arith, h) in
      ap (λ k. get_or all k []) here_at
      ∙ kept (with_one listed w) provenances (length listed) (omega (arith, more))
      ∙ get_or-append_seam listed (f listed w) [] []
      ∙ alike listed all place (λ k below. sym (kept listed (w ∷ provenances) k (omega (arith, h, below)))) w parts.0
      ∙ ap (f all) same
  from_place listed (w ∷ provenances) place h e (suc i) provenance at =
      let parts = and_parts (goes_below place w) (are_earlier (place + 1) provenances) e in
      let more = length-append listed (f listed w ∷ []) in
      let next : place + suc i ≡ place + 1 + i = omega arith in
      ap (λ k. get_or (fold with_one (with_one listed w) provenances) k []) next
      ∙ from_place (with_one listed w) provenances (place + 1) (omega (arith, h, more)) parts.1 i provenance at

  pub at_provenance : (provenances : List Provenance) → are_earlier 0 provenances ≡ true → (i : ℕ) (provenance : Provenance) → slice_get provenances i ≡ Some provenance → get_or (fold with_one [] provenances) i [] ≡ f (fold with_one [] provenances) provenance
  at_provenance provenances e i provenance at = let same : 0 + i ≡ i = omega arith in ap (λ k. get_or (fold with_one [] provenances) k []) (sym same) ∙ from_place [] provenances 0 refl e i provenance at
