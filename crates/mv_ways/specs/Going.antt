-- How provenances follow from each other, and which of them lead to one.
--   original provenance, given provenance    the provenance that a copy or a field is derived from, and those of which a function returned something
--   IsDerived, IsGiven                       a provenance is a copy or a field of another one, or was returned by a function that had it
--   LeadsTo provenances last place           a provenance leads to the last one
--   IsReturned provenances last from place   so does something that a function returned that had the provenance
--   does_lead, was_given, says_passed        what a mark says of a provenance
--   AreLeading provenances last marks        the first two are marked of each provenance
-- goes_over is a word of single contracts.
use Rattle.std.specs.Prelude.{◌≡◌, ℕ, ◌<◌, ◌≤◌, ◌==◌, ◌↔◌, Bool, true, false, ◌||◌, List, []}
use Rattle.std.specs.Prelude.{length, slice_get, slice_index_or, Option, Some, None, Contains, IsTrue}
use Rattle.std.specs.List.{list_any}
use Rattle.std.specs.Option.{option_map_or}
use Rattle.mv_ways.specs.declared.provenances.Provenance.{Provenance}
use Rattle.mv_ways.specs.declared.provenances.Provenance.TheVariants.{Stated, Lent, Field, Returned}
use Rattle.mv_ways.specs.declared.provenances.under.leading.Mark.{Mark}
use Rattle.mv_ways.specs.declared.provenances.under.leading.Mark.TheVariants.{Nothing, Leads, Given, Passed}

-- the provenance that a copy or a field goes over
abbrev pub original : Provenance → Option ℕ
original (Stated origins) = None
original (Lent source over) = over
original (Field over position) = Some over
original (Returned provenances) = None

-- what a function had of which it returned something
abbrev pub given : Provenance → List ℕ
given (Stated origins) = []
given (Lent source over) = []
given (Field over position) = []
given (Returned provenances) = provenances.items

-- the provenance at a place is a copy of another one, or a field of it
pub record IsDerived (provenances : List Provenance) (place child : ℕ) (provenance : Provenance) : Type 0 where
  pub at : slice_get provenances child ≡ Some provenance
  pub over : original provenance ≡ Some place

-- a function that had the other one returned it
pub record IsGiven (provenances : List Provenance) (place child : ℕ) (provenance : Provenance) : Type 0 where
  pub at : slice_get provenances child ≡ Some provenance
  pub has : Contains (given provenance) place

-- a provenance leads to the last one
pub data LeadsTo (provenances : List Provenance) (last : ℕ) : ℕ → Type 0 where
  itself : LeadsTo provenances last last
  by_derived : {place child : ℕ} {provenance : Provenance} → IsDerived provenances place child provenance → LeadsTo provenances last child → LeadsTo provenances last place
  by_given : {place child : ℕ} {provenance : Provenance} → IsGiven provenances place child provenance → LeadsTo provenances last child → LeadsTo provenances last place

-- whether a provenance goes over the one at a place
abbrev pub goes_over : Provenance → ℕ → Bool
goes_over provenance place = option_map_or (λ over. over == place) (original provenance) false || list_any (λ over. over == place) (given provenance)

-- something that a function returned that had a provenance leads to the last one, from a place on
pub record IsReturned (provenances : List Provenance) (last from place : ℕ) : Type 0 where
  pub child : ℕ
  pub provenance : Provenance
  pub behind : from ≤ child
  pub giving : IsGiven provenances place child provenance
  pub leading : LeadsTo provenances last child

-- what a mark says of a provenance: it leads to the last one; something that a function returned which had it does; and it is passed
abbrev pub does_lead : Mark → Bool
does_lead Nothing = false
does_lead Leads = true
does_lead Given = true
does_lead Passed = false

abbrev pub was_given : Mark → Bool
was_given Nothing = false
was_given Leads = false
was_given Given = true
was_given Passed = false

abbrev pub says_passed : Mark → Bool
says_passed Nothing = false
says_passed Leads = false
says_passed Given = false
says_passed Passed = true

-- of each provenance it is marked whether it leads to the last one, and whether a function that had it returned something that does
pub record AreLeading (provenances : List Provenance) (last : ℕ) (marks : List Mark) : Type 0 where
  pub leads : (k : ℕ) (d : Mark) → k < length provenances → IsTrue (does_lead (slice_index_or marks k d)) ↔ LeadsTo provenances last k
  pub returned : (k : ℕ) (d : Mark) → k < length provenances → IsTrue (was_given (slice_index_or marks k d)) ↔ IsReturned provenances last 0 k
