-- Where the bytes of an input end that were read so far, among its records.
--   EndsWhole given           they are whole records
--   EndsCut given             whole records stand first, and behind them something that is no whole record
--   IsBehind state part       where this part, behind whole records, ends
--   StandsAt state given      where they end
--   Leads old bytes new       from the one place these bytes lead to the other
--   TellsWhole state is       what is told of the bytes that end there: whether they are whole records
use Rattle.std.specs.Prelude.{◌≡◌, ◌≢◌, ℕ, ◌+◌, ◌≤◌, ◌<◌, List, [], ◌∷◌, ◌++◌, length, take, ◌⊎◌, Bool, true, false}
use Rattle.mv_uleb.specs.Uleb.{IsUleb, AreHigh}
use Rattle.mv_move_types.specs.Limits.{most_payload_bytes}
use Rattle.moveledger.specs.Reading.{LengthFails}
use Rattle.moveledger.specs.Records.{Record, AreWhole, NoWhole}
use Rattle.moveledger_program.specs.declared.following.ParseState.{ParseState}
use Rattle.moveledger_program.specs.declared.following.ParseState.TheVariants as state

-- the bytes are whole records
abbrev pub EndsWhole : List ℕ → Type 0
EndsWhole given = (records : List Record) × AreWhole given records

-- the bytes are whole records, and some behind them that are no whole record
abbrev pub EndsCut : List ℕ → Type 0
EndsCut given = (whole : List ℕ) × (part : List ℕ) × EndsWhole whole × (given ≡ whole ++ part) × (part ≢ []) × NoWhole part

-- These bytes are a kind, a length, and a part of the payload: so many bytes of it are missing.
pub record Lacks (missing : ℕ) (part : List ℕ) : Type 0 where
  pub kind : ℕ
  pub size : ℕ
  pub len : List ℕ
  pub took : List ℕ
  pub spelled : IsUleb len size
  pub small : size ≤ most_payload_bytes
  pub counted : length took + missing ≡ size
  pub some : 0 < missing
  pub text : part ≡ kind ∷ (len ++ took)

-- The part of a record, behind whole ones, ends so: there is none, or so many bytes of its payload are missing; within its length, or
-- before it; or behind bytes that are no length.
abbrev pub IsBehind : ParseState → List ℕ → Type 0
IsBehind (state.Record missing) part = ((missing ≡ 0) × (part ≡ [])) ⊎ Lacks missing part
IsBehind (state.Length begun) part =
    (kind : ℕ) × (length begun.bytes ≡ 10) × (begun.count ≤ 10) × AreHigh (take begun.count begun.bytes) × (part ≡ kind ∷ take begun.count begun.bytes)
IsBehind state.NoLength part = (kind : ℕ) × (bytes : List ℕ) × (more : List ℕ) × LengthFails bytes × (part ≡ kind ∷ (bytes ++ more))

-- the bytes are whole records, and a part that ends so
abbrev pub StandsAt : ParseState → List ℕ → Type 0
StandsAt state given = (whole : List ℕ) × (part : List ℕ) × EndsWhole whole × (given ≡ whole ++ part) × IsBehind state part

-- behind whatever bytes the one place is, with these it is the other
abbrev pub Leads : ParseState → List ℕ → ParseState → Type 0
Leads old bytes new = (given : List ℕ) → StandsAt old given → StandsAt new (given ++ bytes)

-- what is told of bytes that end there is whether they are whole records
abbrev pub SaysWhole : List ℕ → Bool → Type 0
SaysWhole given true = EndsWhole given
SaysWhole given false = EndsCut given

abbrev pub TellsWhole : ParseState → Bool → Type 0
TellsWhole state is_whole = (given : List ℕ) → StandsAt state given → SaysWhole given is_whole
