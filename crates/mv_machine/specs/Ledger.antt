-- The ledger's state, its requests, and what each request changes and answers.
-- First the ledger's state and what records ask, then what each of these changes, then what it answers.
--   LedgerState, modules_of s              published modules, storage, tallies and number of runs; and the modules' tables
--   Offer, RunRequest, Format              what a publish, a run, and a show or an audit give
--   Request                                what a record asks
--   scarce_structs modules                 the structs with neither copy nor drop, which alone a ledger tallies (why: decision 47)
--   with_bundle s bundle                   the ledger after a bundle
--   AreRead                                published modules are the offered ones
--   admitted s r                           the call that a run asks for, or the first reason against it
--   applied s outcome                      the reply to a run, and the ledger after it
--   shown, audited                         the lines of a show and of an audit
--   Answers IsText old request reply new   what the ledger may reply to a request, and where it goes on to
-- The others are parts of these.
use Rattle.std.specs.Prelude.{ℕ, List, [], map, cond, Option, Some, None, flat_map, filter_map, find, unwrap_or, Bool, false, ◌∷◌, ◌≡◌, true, ◌&&◌}
use Rattle.std.specs.Prelude.{nat_lt, nat_le, Result, Ok, ok_or, slice_get, ◌+◌, Err, length}
use Rattle.mv_machine.specs.State.{Storage, Event}
use Rattle.mv_machine.specs.Lines.{Tallied, Reply, RanToEnd, RanToAbort, RanOut, Rejected, Published, Refused, Told}
use Rattle.mv_machine.specs.Lines.{show_lines, audit_lines, show_json, audit_json}
use Rattle.mv_move_types.specs.Limits.{most_runs, most_steps}
use Rattle.mv_move_types.specs.Scarce.{is_scarce_struct}
pub use Rattle.mv_move_types.specs.Published.{PublishedModule, has_name_of, with_module, with_modules}
use Rattle.mv_move_types.specs.Module.{Module, StructDefinition, name_of_struct, parameter_tokens}
use Rattle.mv_move_types.specs.Names.{ModuleName, StructName, same_struct}
use Rattle.mv_machine.specs.Value.{Value, Leaf}
use Rattle.mv_machine.specs.Run.{run, packs, unpacks, FunctionCall, RunOutcome, Returned, Aborted, Exhausted, Faulted}
use Rattle.mv_move_types.specs.Named.{module_place, function_place}
use Rattle.mv_move_types.specs.declared.token.ValueType.TheVariants.{OfLeaf}
use Rattle.mv_move_types.specs.declared.token.Token.{Token}
use Rattle.mv_move_types.specs.declared.token.Token.TheVariants.{Plain}
use Rattle.mv_move_types.specs.Tokens.{same_kind}
use Rattle.mv_move_types.specs.declared.token.LeafKind.TheVariants.{Signer}
use Rattle.mv_move_types.specs.Results.{◌>>=◌, ◌>>◌, need}

-- the modules in order of publication, the storage, the tallies of the structs with neither copy nor drop, and the runs had
pub record LedgerState : Type 0 where
  pub published : List PublishedModule
  pub storage : Storage
  pub tallies : List Tallied
  pub runs : ℕ

-- the published modules' tables
abbrev pub modules_of : LedgerState → List Module
modules_of s = map (λ p. p.tables) s.published

-- a module that a bundle offers
pub record Offer : Type 0 where
  pub text : List ℕ
  pub certificate : List ℕ

-- a function to be run, by the names of its module and of itself
pub record RunRequest : Type 0 where
  pub sender : ℕ
  pub home : ModuleName
  pub function : List ℕ
  pub budget : ℕ
  pub arguments : List Value

-- how a report is wanted
pub data Format : Type 0 where
  AsText : Format
  AsJson : Format

-- what a record asks; BadRun and Bad are a run's and any other payload that isn't of its kind's shape
pub data Request : Type 0 where
  Publish : (sender : ℕ) (offers : List Offer) → Request
  Run : (run : RunRequest) → Request
  Show : (format : Format) → Request
  Audit : (format : Format) → Request
  BadRun : Request
  Bad : Request

-- a struct's name, if it has neither copy nor drop
abbrev pub scarce_name : Module → StructDefinition → Option StructName
scarce_name m d = cond (is_scarce_struct m d) (name_of_struct m d) None

-- the structs with neither copy nor drop, by place of their module and index of their definition
abbrev pub scarce_structs : List Module → List StructName
scarce_structs = flat_map (λ m. filter_map (scarce_name m) m.structs)

-- a struct whose values were neither made nor taken apart
abbrev pub untouched_tally : StructName → Tallied
untouched_tally s = record { struct = s; packs = 0; unpacks = 0 }

-- a struct's tally among these, or an empty one
abbrev pub tally_of : List Tallied → StructName → Tallied
tally_of tallies s = unwrap_or (find (λ t. same_struct t.struct s) tallies) (untouched_tally s)

-- the ledger after a bundle: a module takes the place of the one of its name or the last place, and a struct that is new has an empty tally
abbrev pub with_bundle : LedgerState → List PublishedModule → LedgerState
with_bundle s bundle =
    let published = with_modules s.published bundle in
    record s { published = published; tallies = map (tally_of s.tallies) (scarce_structs (map (λ p. p.tables) published)) }

-- these are the offered modules, read from their texts
abbrev pub AreRead : (List ℕ → Module → Type 0) → List Offer → List PublishedModule → Type 0
AreRead IsText [] [] = Unit {0}
AreRead IsText [] (p ∷ ps) = ⊥
AreRead IsText (o ∷ os) [] = ⊥
AreRead IsText (o ∷ os) (p ∷ ps) =
    (p.text ≡ o.text) × (p.certificate ≡ o.certificate) × IsText o.text p.tables × AreRead IsText os ps

-- whether a value is of a parameter's type
abbrev pub is_argument : Token → Value → Bool
is_argument (Plain (OfLeaf k)) (Leaf j n) = same_kind j k
is_argument _ _ = false

-- whether values are of parameters' types, one each
abbrev pub are_arguments : List Token → List Value → Bool
are_arguments [] [] = true
are_arguments [] (v ∷ vs) = false
are_arguments (t ∷ ts) [] = false
are_arguments (t ∷ ts) (v ∷ vs) = is_argument t v && are_arguments ts vs

-- the arguments with the sender in front, where the first parameter is a signer
abbrev pub with_signer : ℕ → List Token → List Value → List Value
with_signer sender (Plain (OfLeaf Signer) ∷ tokens) arguments = Leaf Signer sender ∷ arguments
with_signer sender _ arguments = arguments

-- the call that a run asks for, or the first reason against it; a payload of no shape is reason 1
unfoldable pub admitted : LedgerState → RunRequest → Result FunctionCall ℕ
admitted s r = do
  need (nat_le r.budget most_steps) 2
  place ← ok_or (module_place (modules_of s) r.home) 3
  home ← ok_or (slice_get (modules_of s) place) 3
  index ← ok_or (function_place home r.function) 4
  d ← ok_or (slice_get home.functions index) 4
  need d.is_entry 5
  tokens ← ok_or (parameter_tokens home d) 6
  need (are_arguments tokens (with_signer r.sender tokens r.arguments)) 6
  need (nat_lt s.runs most_runs) 7
  Ok (record { function = record { place = place; index = index }; arguments = with_signer r.sender tokens r.arguments })

-- a struct's tally with those of a run
abbrev pub tally_with : List Event → Tallied → Tallied
tally_with events t = record t { packs = t.packs + packs t.struct events; unpacks = t.unpacks + unpacks t.struct events }

-- the ledger after one more run
abbrev pub with_run : LedgerState → LedgerState
with_run s = record s { runs = s.runs + 1 }

-- the ledger after a run that returned
abbrev pub with_returned : LedgerState → Storage → List Event → LedgerState
with_returned s storage events = record (with_run s) { storage = storage; tallies = map (tally_with events) s.tallies }

-- the reply to a run with this outcome, and the ledger after it; a fault has none
abbrev pub applied : LedgerState → RunOutcome → Option (Reply × LedgerState)
applied s (Returned steps storage events) = Some (RanToEnd steps, with_returned s storage events)
applied s (Aborted kind number steps) = Some (RanToAbort kind number steps, with_run s)
applied s (Exhausted stop steps) = Some (RanOut stop steps, with_run s)
applied s (Faulted fault steps) = None

-- the reply to a run, which is rejected where there is a reason against it
abbrev pub attempted : LedgerState → ℕ → Result FunctionCall ℕ → Option (Reply × LedgerState)
attempted s budget (Ok call) = applied s (run (modules_of s) s.storage call budget)
attempted s budget (Err reason) = Some (Rejected reason, s)

-- the lines of a show
abbrev pub shown : LedgerState → Format → List (List ℕ)
shown s AsText = show_lines (modules_of s) s.storage
shown s AsJson = show_json (modules_of s) s.storage ∷ []

-- the lines of an audit
abbrev pub audited : LedgerState → Format → List (List ℕ)
audited s AsText = audit_lines s.storage s.tallies
audited s AsJson = audit_json s.storage s.tallies ∷ []

-- a bundle is published whole, or refused and nothing changes
abbrev pub AnswersPublish : (List ℕ → Module → Type 0) → LedgerState → List Offer → Reply → LedgerState → Type 0
AnswersPublish IsText old offers (Published n) new =
    (bundle : List PublishedModule) × AreRead IsText offers bundle × (n ≡ length offers) × (new ≡ with_bundle old bundle)
AnswersPublish IsText old offers (Refused phase) new = new ≡ old
AnswersPublish IsText old offers _ new = ⊥

-- the ledger may give this reply to the request and go on to new; only a bundle leaves it a choice
abbrev pub Answers : (List ℕ → Module → Type 0) → LedgerState → Request → Reply → LedgerState → Type 0
Answers IsText old (Publish sender offers) reply new = AnswersPublish IsText old offers reply new
Answers IsText old (Run r) reply new = attempted old r.budget (admitted old r) ≡ Some (reply, new)
Answers IsText old (Show format) reply new = (reply ≡ Told (shown old format)) × (new ≡ old)
Answers IsText old (Audit format) reply new = (reply ≡ Told (audited old format)) × (new ≡ old)
Answers IsText old BadRun reply new = (reply ≡ Rejected 1) × (new ≡ old)
Answers IsText old Bad reply new = (reply ≡ Refused 1) × (new ≡ old)
