-- Modules of a bundle stand at different places, so that a place leads to one of them.
use Rattle.mv_linker.proofs.Common.{ℕ, ◌==◌, ◌∙◌, ◌≡◌, List, Module, Some, all_differ, ap, arith, eq-eqb, eqb-true, have_one_name, is_some, own_name, places_in, position, refl, same_Some, slice_get, slice_get_within}
use Rattle.mv_linker.proofs.Common.{all_named, sym, true}
use Rattle.mv_linker.proofs.Lemmas.{all_at, element_at, have_one_name-from, some-of}
use Rattle.mv_bound_rules.proofs.Found.{find_first, one_place, position-find_index}
use Rattle.mv_linker.proofs.Cycles.DependencyLemmas.{length-places}
use Rattle.mv_linker.proofs.Joining.Bundled.{bundle-at}

module _ (old ns : List Module) (apart : all_differ have_one_name ns ≡ true) (named : all_named ns ≡ true) where
  -- no two have one place
  placed-apart : (j k p : ℕ) → slice_get (places_in old ns) j ≡ Some p → slice_get (places_in old ns) k ≡ Some p → j ≡ k
  placed-apart j k p at_j at_k =
      let x = element_at ns j (omega (arith, slice_get_within (places_in old ns) j p at_j, length-places old ns)) in
      let y = element_at ns k (omega (arith, slice_get_within (places_in old ns) k p at_k, length-places old ns)) in
      let one : x.0 ≡ y.0 = same_Some x.0 y.0 (sym (bundle-at old ns j p x.0 apart x.1 at_j) ∙ bundle-at old ns k p y.0 apart y.1 at_k) in
      let name = some-of (own_name x.0) (all_at (λ n. is_some (own_name n)) ns j x.0 named x.1) in
      let other = ap own_name (sym one) ∙ name.1 in
      one_place have_one_name ns j k x.0 y.0 apart x.1 y.1 (have_one_name-from x.0 y.0 name.0 name.1 other) (have_one_name-from y.0 x.0 name.0 other name.1)

  -- so the one at a place is the first there
  pub first-placed : (k q : ℕ) → slice_get (places_in old ns) k ≡ Some q → position (λ p. p == q) (places_in old ns) ≡ Some k
  first-placed k q at =
      position-find_index (λ p. p == q) (places_in old ns)
      ∙ find_first (λ p. p == q) (places_in old ns) k q at (eq-eqb q q refl)
      (λ j y low y_at passes.
      let same : j ≡ k = placed-apart j k q (y_at ∙ ap (λ p. Some p) (eqb-true y q passes)) at in
      omega (arith, low, same))
