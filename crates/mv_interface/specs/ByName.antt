-- Definitions in ascending order of their names.
--   IsAscending names order               each index of a name stands in the order, and the names ascend along it
--   IsByName identifiers names entries    entries give that order, each with the index of its name in a table of identifiers
--   ArePairs names pairs                  each name with its index
use Rattle.std.specs.Prelude.{◌≡◌, ℕ, ◌<◌, List, Contains, Some, length, map, slice_get, unwrap_or}
use Rattle.std.specs.Borrow.{Bor}
use Rattle.std.specs.declared.cmp.Ordering.TheVariants.{Greater}
use Rattle.std.specs.Ordering.{nat_cmp}
use Rattle.std.specs.Cmp.Lexicographic.{slice_cmp}
use Rattle.mv_interface.specs.Outline.{identifier_at}
use Rattle.mv_interface.specs.declared.by_name.ByName.{ByName}

-- each index of a name stands in the order, and the names ascend along it
pub record IsAscending (names : List (List ℕ)) (order : List ℕ) : Type 0 where
  pub all : (p : ℕ) → p < length names → Contains order p
  pub low : (k p : ℕ) → slice_get order k ≡ Some p → p < length names
  pub ascends : (j k p q : ℕ) (x y : List ℕ) → j < k → slice_get order j ≡ Some p → slice_get order k ≡ Some q
      → slice_get names p ≡ Some x → slice_get names q ≡ Some y → slice_cmp nat_cmp x y ≡ Greater → ⊥

-- the indices of entries
abbrev pub indices_in : List ByName → List ℕ
indices_in entries = map (λ e. e.index) entries

-- the names at some indices of a table of identifiers
abbrev pub names_at : List (List ℕ) → List ℕ → List (List ℕ)
names_at identifiers indices = map (identifier_at identifiers) indices

-- entries give that order, each with the index of its name in a table of identifiers
pub record IsByName (identifiers : List (List ℕ)) (names : List (List ℕ)) (entries : List ByName) : Type 0 where
  pub ascending : IsAscending names (indices_in entries)
  pub named : (k : ℕ) (e : ByName) → slice_get entries k ≡ Some e → slice_get names e.index ≡ Some (identifier_at identifiers e.identifier)

-- each name with its index
pub record ArePairs (names : List (List ℕ)) (pairs : List (Bor (List ℕ) × ℕ)) : Type 0 where
  pub len : length pairs ≡ length names
  pub each : (k : ℕ) (p : Bor (List ℕ) × ℕ) → slice_get pairs k ≡ Some p → (p.1 ≡ k) × (slice_get names k ≡ Some p.0.now)

-- the entry of a definition, by the indices of the names
abbrev pub entry_by : List ℕ → ℕ → ByName
entry_by indices i = record { identifier = unwrap_or (slice_get indices i) 0; index = i }
