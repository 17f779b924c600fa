-- Modules that are in order by themselves, and the search for a chain of dependencies that leads back to its module.
--   LeadsTo modules p q                  the module at one place depends on the one at another
--   IsFinished base done p               a place is one of the first, or of a set of places
--   AreFinished modules base done        such modules depend on each other alone, and none of them on itself by a chain
--   LeadsToFinished, IsNext              whether a module depends on such alone
--   IsSearched ..                        a search from a place came to its end
--   GainsNothing old result              no module that takes another's place depends on more
use Rattle.std.specs.Prelude.{◌≡◌, ◌⊎◌, ℕ, ◌<◌, List, IsTrue, Some, slice_get}
use Rattle.mv_move_types.specs.Module.{Module}
use Rattle.mv_bit_sets.specs.BitSets.{has, IsWithin}
use Rattle.mv_link_rules.specs.StoreRules.{depends_on, Reaches}

-- the module at one place depends on the one at another
pub record LeadsTo (modules : List Module) (p q : ℕ) : Type 0 where
  pub from : Module
  pub to : Module
  pub from_at : slice_get modules p ≡ Some from
  pub to_at : slice_get modules q ≡ Some to
  pub depends : IsTrue (depends_on from to)

-- a place is one of the first, or of a set of places
abbrev pub IsFinished : ℕ → List ℕ → ℕ → Type 0
IsFinished base done p = (p < base) ⊎ IsTrue (has done p)

-- the modules at such places depend on each other alone, and none of them on itself by a chain
pub record AreFinished (modules : List Module) (base : ℕ) (done : List ℕ) : Type 0 where
  pub closed : (p q : ℕ) → IsFinished base done p → LeadsTo modules p q → IsFinished base done q
  pub ordered : (p : ℕ) (m : Module) → IsFinished base done p → slice_get modules p ≡ Some m → Reaches modules m m → ⊥

-- a module depends on such alone
abbrev pub LeadsToFinished : List Module → ℕ → List ℕ → ℕ → Type 0
LeadsToFinished modules base done p = (q : ℕ) → LeadsTo modules p q → IsFinished base done q

-- a module depends on another one
pub record IsNext (modules : List Module) (base : ℕ) (done : List ℕ) (p q : ℕ) : Type 0 where
  pub leads : LeadsTo modules p q
  pub unfinished : IsFinished base done q → ⊥

-- a search from a place came to its end: all places that it met are finished, with those that were before
pub record IsSearched (modules : List Module) (base start : ℕ) (was met done : List ℕ) : Type 0 where
  pub finished : AreFinished modules base done
  pub stays : IsWithin 0 was done
  pub all_done : IsWithin 0 met done
  pub starts : IsTrue (has done start)

-- no module that takes another's place depends on what stands where the other depends on none
abbrev pub GainsNothing : List Module → List Module → Type 0
GainsNothing old result = (p q : ℕ) → (x : Module) → slice_get old p ≡ Some x → LeadsTo result p q → LeadsTo old p q
