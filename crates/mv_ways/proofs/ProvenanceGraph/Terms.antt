-- What the loop over provenances that marks which of them lead to the last one keeps, and what a chain of provenances ends with.
use Rattle.std.specs.Prelude.{◌≡◌, ℕ, ◌<◌, ◌≤◌, ◌↔◌, List, [], ◌∷◌, ◌++◌, fold, length, slice_index_or, IsTrue}
use Rattle.std.specs.Option.{option_map_or}
use Rattle.mv_ways.specs.declared.provenances.Provenance.{Provenance}
use Rattle.mv_ways.specs.declared.provenances.Provenance.TheVariants.{Stated, Lent, Field, Returned}
use Rattle.mv_ways.specs.declared.provenances.under.leading.Mark.{Mark}
use Rattle.mv_ways.specs.Going.{IsDerived, IsReturned, LeadsTo, does_lead, was_given}

-- a provenance leads to the last one as far as can be told from the provenances from a place on
pub data LeadsBy (provenances : List Provenance) (last from place : ℕ) : Type 0 where
  at_end : place ≡ last → LeadsBy provenances last from place
  by_copy : (child : ℕ) (provenance : Provenance) → from ≤ child → IsDerived provenances place child provenance → LeadsTo provenances last child → LeadsBy provenances last from place
  by_return : IsReturned provenances last from place → LeadsBy provenances last from place

-- of each provenance it is marked whether it leads to the last one, as far as can be told from the provenances from a place on
pub record AreMarked (provenances : List Provenance) (last from : ℕ) (marks : List Mark) : Type 0 where
  pub leads : (k : ℕ) (d : Mark) → k < length provenances → IsTrue (does_lead (slice_index_or marks k d)) ↔ LeadsBy provenances last from k
  pub returned : (k : ℕ) (d : Mark) → k < length provenances → IsTrue (was_given (slice_index_or marks k d)) ↔ IsReturned provenances last from k

-- what the chain under a provenance ends with: the provenances that a function was given, of which it returned the last one of the chain
abbrev pub given_of : List (List ℕ) → Provenance → List ℕ
given_of listed (Stated origins) = []
given_of listed (Lent source over) = option_map_or (λ k. slice_index_or listed k []) over []
given_of listed (Field over position) = slice_index_or listed over []
given_of listed (Returned provenances) = provenances.items

abbrev pub with_given_of : List (List ℕ) → Provenance → List (List ℕ)
with_given_of listed provenance = listed ++ given_of listed provenance ∷ []

abbrev pub all_given : List Provenance → List (List ℕ)
all_given provenances = fold with_given_of [] provenances
