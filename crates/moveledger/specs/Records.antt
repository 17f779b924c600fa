-- Which records an input is, apart from any reader.
--   Record                          a whole record with its kind and payload, or a cut one (why a cut one is `refused 1`: decision 8)
--   IsText bytes kind payload       how a whole record is written
--   NoWhole bytes                   no whole record stands at the front
--   Begins input record more        the input begins with this record
--   AreRecords input records rest   the input is these records, and then a rest
--   AreWhole bytes records          the bytes are these whole records
use Rattle.std.specs.Prelude.{◌≡◌, ◌≢◌, ℕ, ◌-◌, ◌^◌, ◌≤◌, List, [], ◌∷◌, ◌++◌, length}
use Rattle.mv_uleb.specs.Uleb.{IsUleb}
use Rattle.mv_move_types.specs.Limits.{most_payload_bytes}

-- records of an input that are answered: as many as eight bytes can number
abbrev pub most_records : ℕ
most_records = 2 ^ 64 - 1

pub data Record : Type 0 where
  -- its kind and its payload
  Whole : ℕ → List ℕ → Record
  -- what is no whole record, however much of it there is
  Cut : Record

-- the bytes are this whole record: its kind, the length of its payload, its payload
abbrev pub IsText : List ℕ → ℕ → List ℕ → Type 0
IsText bytes kind payload = (len : List ℕ) × IsUleb len (length payload) × (length payload ≤ most_payload_bytes) × (bytes ≡ kind ∷ (len ++ payload))

-- no whole record stands at the front
abbrev pub NoWhole : List ℕ → Type 0
NoWhole bytes = (kind : ℕ) (payload front more : List ℕ) → IsText front kind payload → bytes ≡ front ++ more → ⊥

-- The input begins with this record, and more follows. A cut one takes all there is.
abbrev pub Begins : List ℕ → Record → List ℕ → Type 0
Begins input (Whole kind payload) more = (front : List ℕ) × IsText front kind payload × (input ≡ front ++ more)
Begins input Cut more = (input ≢ []) × NoWhole input × (more ≡ [])

-- the input is these records, one after the other, and then a rest
abbrev pub AreRecords : List ℕ → List Record → List ℕ → Type 0
AreRecords input [] rest = input ≡ rest
AreRecords input (record1 ∷ records) rest = (more : List ℕ) × Begins input record1 more × AreRecords more records rest

-- the bytes are these records, each of them whole, whatever follows them
abbrev pub AreWhole : List ℕ → List Record → Type 0
AreWhole bytes records = (more : List ℕ) → AreRecords (bytes ++ more) records more
