-- A scope whose bundle joins its store: where its modules stand, and that what they name is there.
use Rattle.mv_linker.proofs.Common.{ℕ, ◌==◌, ◌∙◌, ◌≡◌, InBounds, IsSome, Joins, List, Module, New, None, Scope, Some, ap, arith, eq-eqb}
use Rattle.mv_linker.proofs.Common.{find_index, inl, inr, is_some, length, length-map, modules_in, not, offered}
use Rattle.mv_linker.proofs.Common.{position, refl, slice_get, slice_get_within, sym, tables_in, WellDefined}
use Rattle.std.proofs.lemmas.Bool.{not-false}
use Rattle.mv_linker.proofs.Lemmas.{among-at, among-result, element_at}
use Rattle.mv_linker.proofs.Joining.Assembling.{joining-offered}
use Rattle.mv_linker.proofs.Joining.Bundled.{bundle-at, old-at, place-at}
use Rattle.mv_linker.proofs.Cycles.DependencyLemmas.{length-places}
use Rattle.mv_bound_rules.proofs.Found.{position-find_index}
use Rattle.mv_linker.proofs.ListTests.{find_index-none}
use Rattle.mv_linker.proofs.Joining.StillThere.{Joining}
use Rattle.std.proofs.lemmas.Map.Keys.{any_passes_from_place}
use Rattle.mv_linker.specs.Relinked.{IsFitting}

-- a place that is there is found
pub position-there : (q k : ℕ) (places : List ℕ) → slice_get places k ≡ Some q → IsSome (position (λ p. p == q) places)
position-there q k places at =
    ap is_some (position-find_index (λ p. p == q) places)
    ∙ not-false (is_some (find_index (λ p. p == q) places)) (find_index-none (λ p. p == q) places ∙ ap not (any_passes_from_place (λ p. p == q) places k q at (eq-eqb q q refl)))

-- a bundle takes as many places as it has modules
pub placed-length : (s : Scope) → length s.places.items ≡ length s.new.now
placed-length s = ap length s.placed ∙ length-places (tables_in s.store.now) (offered s.new.now) ∙ length-map s.new.now (λ (n : New). n.module)

-- a bundle that fits
pub fitting : (s : Scope) → IsFitting s → Joining (tables_in s.store.now) (offered s.new.now)
fitting s fits = joining-offered s.store.now s.new.now fits.store fits.passed fits.once fits.compatible

module _ (s : Scope) (joins : Joins s) where
  pub joining : Joining (tables_in s.store.now) (offered s.new.now)
  joining = fitting s joins.fits

  -- a module of the bundle stands at its place
  pub bundled-at : (k p : ℕ) (n : Module) → slice_get (offered s.new.now) k ≡ Some n → slice_get s.places.items k ≡ Some p → slice_get (modules_in s) p ≡ Some n
  bundled-at k p n at placed = bundle-at (tables_in s.store.now) (offered s.new.now) k p n joins.fits.once at (sym (ap (λ l. slice_get l k) s.placed) ∙ placed)

  -- and the old one, where none of the bundle does
  pub kept-at : (q : ℕ) → position (λ p. p == q) s.places.items ≡ None → slice_get (modules_in s) q ≡ slice_get (tables_in s.store.now) q
  kept-at q none = old-at (tables_in s.store.now) (offered s.new.now) q (sym (ap (position (λ p. p == q)) s.placed) ∙ none)

  -- what stands at the place of one of the bundle
  pub same-bundled : (k q : ℕ) → position (λ p. p == q) s.places.items ≡ Some k → slice_get (offered s.new.now) k ≡ slice_get (modules_in s) q
  same-bundled k q found =
      let at = place-at q k s.places.items found in
      let long = ap length s.placed ∙ length-places (tables_in s.store.now) (offered s.new.now) in
      let n = element_at (offered s.new.now) k (omega (arith, slice_get_within s.places.items k q at, long)) in
      n.1 ∙ sym (bundled-at k q n.0 n.1 at)

  -- the indices of each module are in bounds
  pub bounds-at : (q : ℕ) (m : Module) → slice_get (modules_in s) q ≡ Some m → InBounds m
  bounds-at q m at = elim (among-result (tables_in s.store.now) (offered s.new.now) m joins.fits.store.once (among-at (modules_in s) q m at)) [
    | inl new ↦ joining.new_bounds m new
    | inr old ↦ joining.bounds m old.0
  ]

-- each module of a bundle that fits, or of its store, is well defined
pub well-defined : (s : Scope) → IsFitting s → (q : ℕ) (m : Module) → slice_get (modules_in s) q ≡ Some m → WellDefined m
well-defined s fits q m at =
    let j = fitting s fits in
    elim (among-result (tables_in s.store.now) (offered s.new.now) m fits.store.once (among-at (modules_in s) q m at)) [ inl new ↦ j.new_defined m new | inr old ↦ j.defined m old.0 ]
