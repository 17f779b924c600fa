-- What was read of a record.
--   piece_limit                the most bytes of a payload that are read at once
--   NoLength bytes             no length stands at the front
--   IsLengthBegun bytes        a part of a length, that needs more bytes
--   LengthFails bytes          bytes that stand in the place of a length, up to its end, and are none
--   HasNoLength took left      a length was begun and nothing is left, or it fails
--   IsUnfinished bytes         a part of a record, that needs more bytes
--   IsCutAt took left          what was taken of a cut record, and what is left after it
--   IsTaken took left record   what was taken as a record, whole or cut, and what is left
use Rattle.std.specs.Prelude.{◌≡◌, ◌≢◌, ℕ, ◌≤◌, ◌<◌, List, [], ◌∷◌, ◌++◌, length, ◌⊎◌}
use Rattle.mv_uleb.specs.Uleb.{IsUleb, AreHigh}
use Rattle.mv_move_types.specs.Limits.{most_payload_bytes}
use Rattle.moveledger.specs.Records.{Record, Whole, Cut, IsText}

-- the most bytes of a payload that are read at once
abbrev pub piece_limit : ℕ
piece_limit = 65536

-- no length stands at the front
abbrev pub NoLength : List ℕ → Type 0
NoLength bytes = (n : ℕ) (len more : List ℕ) → n ≤ most_payload_bytes → IsUleb len n → bytes ≡ len ++ more → ⊥

-- bytes behind which a length goes on: each says that another one follows, and they are fewer than ten
abbrev pub IsLengthBegun : List ℕ → Type 0
IsLengthBegun bytes = AreHigh bytes × (length bytes < 10)

-- The bytes are where a length should stand, up to its end, and are none: ten that each say that another one follows, or up to the
-- first that doesn't, which with those before it stands for no number within the limit.
pub data LengthFails : List ℕ → Type 0 where
  has_no_end : (bytes : List ℕ) → AreHigh bytes → length bytes ≡ 10 → LengthFails bytes
  is_no_number : (high : List ℕ) (last : ℕ) → IsLengthBegun high → last < 128 → NoLength (high ++ last ∷ []) → LengthFails (high ++ last ∷ [])

-- what was taken where a length should stand is a part of one, and nothing is left; or the length fails there
abbrev pub HasNoLength : List ℕ → List ℕ → Type 0
HasNoLength took left = (IsLengthBegun took × (left ≡ [])) ⊎ LengthFails took

-- The bytes are a part of a record, which needs more to be whole: nothing; or its kind and a part of its length; or these two and
-- fewer bytes of the payload than the length says.
pub data IsUnfinished : List ℕ → Type 0 where
  at_kind : IsUnfinished []
  in_length : (kind : ℕ) (bytes : List ℕ) → IsLengthBegun bytes → IsUnfinished (kind ∷ bytes)
  in_payload : (kind n : ℕ) (len bytes : List ℕ) → IsUleb len n → n ≤ most_payload_bytes → length bytes < n → IsUnfinished (kind ∷ (len ++ bytes))

-- These bytes were taken of a cut record, and those are left: it ends with the input, unfinished; or its length fails, and nothing
-- behind the length was read.
pub data IsCutAt : List ℕ → List ℕ → Type 0 where
  at_end : (took : List ℕ) → (took ≢ []) → IsUnfinished took → IsCutAt took []
  at_length : (kind : ℕ) (bytes left : List ℕ) → LengthFails bytes → IsCutAt (kind ∷ bytes) left

-- these bytes were taken as this record, and those are left
abbrev pub IsTaken : List ℕ → List ℕ → Record → Type 0
IsTaken took left (Whole kind payload) = IsText took kind payload
IsTaken took left Cut = IsCutAt took left
