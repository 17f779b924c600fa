-- Tallies whose counts were read are of the same structs, and still those of their store.
use Rattle.mv_saved_text.proofs.Common.{[], ◌++◌, ◌∙◌, ◌∷◌, ◌≡◌, List, ap, flat_map, length, map, refl, subst, sym, length-map, map-append, Module, PublishedModule, IsTalliedStore, tables_in}
use Rattle.mv_saved_text.proofs.Common.{Definition, counts_of, struct_of, counted_by, AreScarce, all_of, scarce_indices, tallied, Tally}
use Rattle.mv_ledger_state.proofs.Runs.TalliesAfter.{map-then}
use Rattle.mv_saved_text.proofs.Loads.BodyTallies.{placed-kept, structs_in}

-- each module's list has its structs with neither copy nor drop
abbrev AreScarceBy : List Module → List (List Definition) → Type 0
AreScarceBy [] [] = Unit {0}
AreScarceBy (m ∷ ms) (ds ∷ dss) = (map (λ (d : Definition). d.index) ds ≡ scarce_indices m) × AreScarceBy ms dss
AreScarceBy _ _ = ⊥

scarce-by : (ms : List Module) (tss : List (List Tally)) → AreScarce ms tss → AreScarceBy ms (structs_in tss)
scarce-by [] [] h = tt
scarce-by (m ∷ ms) (ts ∷ tss) h = (map-then struct_of (λ (d : Definition). d.index) ts ∙ h.0, scarce-by ms tss h.1)
scarce-by _ _ h = absurd h

by-scarce : (ms : List Module) (tss : List (List Tally)) → AreScarceBy ms (structs_in tss) → AreScarce ms tss
by-scarce [] [] h = tt
by-scarce (m ∷ ms) (ts ∷ tss) h = (sym (map-then struct_of (λ (d : Definition). d.index) ts) ∙ h.0, by-scarce ms tss h.1)
by-scarce _ _ h = absurd h

-- the structs of all tallies
structs-all : (tss : List (List Tally)) → map struct_of (all_of tss) ≡ flat_map (λ (ds : List Definition). ds) (structs_in tss)
structs-all [] = refl
structs-all (ts ∷ tss) = map-append struct_of ts (all_of tss) ∙ ap (λ (z : List Definition). map struct_of ts ++ z) (structs-all tss)

-- what tallies count does not hang on their names
pub counts-are : (modules : List Module) (ts : List Tally) → map counted_by (map (tallied modules) ts) ≡ map counts_of ts
counts-are modules ts = map-then (tallied modules) counted_by ts

module _ (modules : List Module) (tss uss : List (List Tally)) (kept : map (map struct_of) uss ≡ map (map struct_of) tss) where
  same-all : map struct_of (all_of uss) ≡ map struct_of (all_of tss)
  same-all = structs-all uss ∙ ap (flat_map (λ (ds : List Definition). ds)) kept ∙ sym (structs-all tss)

  pub still-many : length (all_of uss) ≡ length (all_of tss)
  still-many = sym (length-map (all_of uss) struct_of) ∙ ap length same-all ∙ length-map (all_of tss) struct_of

  pub still-scarce : AreScarce modules tss → AreScarce modules uss
  still-scarce h = by-scarce modules uss (subst (AreScarceBy modules) (sym kept) (scarce-by modules tss h))

-- so a store with its tallies stays one
pub read-held : (modules : List PublishedModule) (tss : List (List Tally)) → IsTalliedStore modules tss → (uss : List (List Tally)) → map (map struct_of) uss ≡ map (map struct_of) tss → IsTalliedStore modules uss
read-held modules tss held uss kept = record { few = held.few; store = held.store; placed = placed-kept 0 uss tss kept held.placed; scarce = still-scarce (tables_in modules) tss uss kept held.scarce }
