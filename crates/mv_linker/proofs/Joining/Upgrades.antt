-- What is kept of a published module decides whether another one may take its place.
--   kept-sound      what is kept of a module of a store is its own, and the module passed what a publish tries
--   kept-of         the same of a module that is to be replaced
use Rattle.mv_linker.proofs.Common.{ℕ, ◌≡◌, IfSome, Interface, IsInterface, IsSound, IsStore, List, Module, None, Option, PublishedModule, Some, arith, length-map, refl, replaced_in, slice_get, subst, tables_in}
use Rattle.mv_linker.proofs.Lemmas.{among-at, element_at}
use Rattle.mv_linker.proofs.Joining.Compatible.{replaced-below}
use Rattle.mv_linker.proofs.Joining.Assembling.{passed-among}

pub kept-sound : (store : List PublishedModule) (place : ℕ) (i : Interface) → IsStore store → IfSome (slice_get (tables_in store) place) (λ m. IsInterface (tables_in store) m i)
    → IfSome (slice_get (tables_in store) place) (λ m. IsInterface (tables_in store) m i × IsSound m)
kept-sound store place i is kept = by_module (slice_get (tables_in store) place) (λ m at. (let p = passed-among store m is.passed (among-at (tables_in store) place m at) in subst (λ (n : Module). IsSound n) p.2 p.1.sound)) kept
  where
    by_module : (o : Option Module) → ((m : Module) → o ≡ Some m → IsSound m) → IfSome o (λ m. IsInterface (tables_in store) m i) → IfSome o (λ m. IsInterface (tables_in store) m i × IsSound m)
    by_module None sound kept = tt
    by_module (Some m) sound kept = (kept, sound m refl)

-- at a module
pub kept-of : (modules : List Module) (place : ℕ) (i : Interface) (m : Module) → IfSome (slice_get modules place) (λ m. IsInterface modules m i × IsSound m) → slice_get modules place ≡ Some m
    → IsInterface modules m i × IsSound m
kept-of modules place i m kept at = subst (λ (o : Option Module). IfSome o (λ m. IsInterface modules m i × IsSound m)) at kept

-- the module that one of the bundle replaces
pub replaced-module : (store : List PublishedModule) (n : Module) (k : ℕ) → replaced_in (tables_in store) n ≡ Some k → (m : Module) × (slice_get (tables_in store) k ≡ Some m)
replaced-module store n k e = element_at (tables_in store) k (omega (arith, replaced-below store n k e, length-map store (λ (p : PublishedModule). p.tables)))
