-- What a writer took of a text, or of a record's lines, where it may not be all.
--   BreaksOff text held holds            a beginning of the text, and not all of it
--   IsOfWholeLines n lines part          the part is whole lines, so many of the first of these
--   AsksJson record                      a show or an audit that asks for JSON
--   IsByLines record n lines part        whole lines; or a prefix of the one line of JSON that the record asks for
use Rattle.std.specs.Prelude.{◌≡◌, ◌⊎◌, ℕ, ◌<◌, List, ◌++◌, length, Option, flat_map}
use Rattle.std.specs.Io.{StartsWith}
use Rattle.std.specs.Io.KnownBytes.{Appends}
use Rattle.mv_machine.specs.Ledger.{AsJson, Audit, Show}
use Rattle.mv_machine.specs.Lines.{numbered}
use Rattle.mv_ledger_state.specs.RecordText.{Asks}
use Rattle.moveledger.specs.Records.{Record, Whole, Cut}

-- a writer took a beginning of the text, and not all of it
abbrev pub BreaksOff : List ℕ → Option (List ℕ) → Option (List ℕ) → Type 0
BreaksOff text held holds = (part : List ℕ) × StartsWith text part × (length part < length text) × Appends held holds part

-- the part is the first of these lines, however many, whole and each with this number
abbrev pub IsOfWholeLines : ℕ → List (List ℕ) → List ℕ → Type 0
IsOfWholeLines n lines part = (first : List (List ℕ)) × (rest : List (List ℕ)) × (lines ≡ first ++ rest) × (part ≡ flat_map (numbered n) first)

-- the record is a show or an audit that asks for JSON: its lines are one line
abbrev pub AsksJson : Record → Type 0
AsksJson (Whole kind payload) = Asks kind payload (Show AsJson) ⊎ Asks kind payload (Audit AsJson)
AsksJson Cut = ⊥

-- the part of a record's lines is whole lines; or the record asks for JSON, and it is a prefix of its line
abbrev pub IsByLines : Record → ℕ → List (List ℕ) → List ℕ → Type 0
IsByLines r n lines part = IsOfWholeLines n lines part ⊎ (AsksJson r × StartsWith (flat_map (numbered n) lines) part)
