-- The headline: what the contract of `engine` promises where no read, write or allocation fails.
--
--   For every input the ledger's report is the defensive machine's over the records read and the bundles that the report itself
--   calls published; no run meets a fault; every run returns, aborts or exhausts its steps or frames; and the stored values of
--   each struct lacking copy and drop number its Packs less its Unpacks in returned runs, each executed by code of the struct's
--   own module. Each such struct of a published module has its tally, and the stored values stand in the order of their keys.
--
-- Each part of the sentence has its name below, from a run up to a whole input. Records.antt says which records bytes are, and
-- Outcome.antt which prefix of the report stands where something fails. The ledger that the input meets may be an empty one or one
-- that was loaded, whatever its bytes were: EachLoadIsSound of mv_saved_text's SavedLaws.antt says that it is sound.
-- OneReport.antt says that an input and a ledger allow one text and one state after it, so that what is said to be there is one thing.
use Rattle.std.specs.Prelude.{◌≡◌, ℕ, ◌+◌, ◌≤◌, true, List, [], ◌∷◌, ◌++◌, length, Option, Some, None, IfOk, ⊤, ◌⊎◌, flat_map}
use Rattle.std.specs.List.{AllByRecursion, AllPairs, AllZip}
use Rattle.std.specs.Io.KnownBytes.{Appends}
use Rattle.mv_move_types.specs.Names.{StructName}
use Rattle.mv_machine.specs.State.{Storage, key_before}
use Rattle.mv_machine.specs.Count.{count}
use Rattle.mv_machine.specs.Run.{RunOutcome, Returned, Aborted, Exhausted, Faulted, run}
use Rattle.mv_machine.specs.Ledger.{LedgerState, Request, Run, Answers, modules_of, scarce_structs, admitted}
use Rattle.mv_machine.specs.Lines.{Tallied, Reply, Refused, reply_lines, numbered}
use Rattle.mv_ledger_state.specs.RecordText.{Asks}
use Rattle.mv_ledger_state.specs.Publishing.{Spells}
use Rattle.mv_ledger_state.specs.Exact.{IsRightly}
use Rattle.mv_ledger.specs.Changes.{Leaves}
use Rattle.mv_ledger_state.specs.View.{LedgerView, state_of}
use Rattle.moveledger.specs.Records.{Record, Whole, Cut, AreRecords, most_records}

-- a run ends without a fault: it returns, aborts or exhausts its steps or frames, after at most as many steps as its budget
abbrev pub EndsWithinBudget : ℕ → RunOutcome → Type 0
EndsWithinBudget budget (Returned steps storage events) = steps ≤ budget
EndsWithinBudget budget (Aborted kind number steps) = steps ≤ budget
EndsWithinBudget budget (Exhausted stop steps) = steps ≤ budget
EndsWithinBudget budget (Faulted fault steps) = ⊥

-- each Pack and Unpack of a run that returned was executed by code of the struct's own module
abbrev pub IsOfOwnModules : ℕ → RunOutcome → Type 0
IsOfOwnModules budget (Returned steps storage events) = AllByRecursion (λ event. event.by ≡ event.struct.home) events
IsOfOwnModules budget _ = ⊤

-- this holds of the machine's run that a record asks for, within its budget; there is none where it asks for none or is rejected
abbrev pub HoldsOfRun : (ℕ → RunOutcome → Type 0) → LedgerState → Request → Type 0
HoldsOfRun Holds s (Run r) = IfOk (admitted s r) (λ call. Holds r.budget (run (modules_of s) s.storage call r.budget))
HoldsOfRun Holds s _ = ⊤

-- a tally is this struct's, and the stored values of the struct, at any depth, number its Packs less its Unpacks in returned runs
abbrev pub IsTalliedBy : Storage → StructName → Tallied → Type 0
IsTalliedBy storage struct tally = (tally.struct ≡ struct) × (count storage struct + tally.unpacks ≡ tally.packs)

-- each struct lacking copy and drop, of all published modules, has its tally in the ledger, which counts it so; there are no others
abbrev pub StoredArePacksLessUnpacks : LedgerState → Type 0
StoredArePacksLessUnpacks s = AllZip (IsTalliedBy s.storage) (scarce_structs (modules_of s)) s.tallies

-- the keys of the stored values ascend, so that each stands once, and the lines of a show are in order
abbrev pub KeysAscend : Storage → Type 0
KeysAscend storage = AllPairs (λ earlier later. key_before earlier.key later.key ≡ true) storage

-- what is stored is accounted for, and in order
pub record IsAccounted (s : LedgerState) : Type 0 where
  pub conserved : StoredArePacksLessUnpacks s
  pub ascending : KeysAscend s.storage

-- a whole record is answered by this reply, and the ledger goes on from old to new
pub record AnswersWhole (kind : ℕ) (payload : List ℕ) (reply : Reply) (old new : LedgerView) : Type 0 where
  -- what the payload asks, by the text of its kind
  pub request : Request
  pub asked : Asks kind payload request
  -- the reply and the ledger after it are the defensive machine's, over the bundles that were called published
  pub faithful : Answers Spells (state_of old) request reply (state_of new)
  -- and a bundle is called published where it passes every phase, else refused in the first that it fails
  pub exact : kind ≡ 1 → IsRightly (state_of old) payload reply (state_of new)
  pub no_fault : HoldsOfRun EndsWithinBudget (state_of old) request
  pub own_modules : HoldsOfRun IsOfOwnModules (state_of old) request
  pub accounted : IsAccounted (state_of new)
  -- a refusal and a rejection leave everything as it was, and a run that didn't return all but the number of runs
  pub leaves : Leaves reply old new

-- a record is answered by these lines; a cut one, which is the last, is refused in phase 1
abbrev pub Step : LedgerView → Record → List (List ℕ) → LedgerView → Type 0
Step old Cut lines new = (lines ≡ reply_lines (Refused 1)) × (new ≡ old)
Step old (Whole kind payload) lines new = (reply : Reply) × (AnswersWhole kind payload reply old new × (lines ≡ reply_lines reply))

-- the text is the report on these records: the lines that answer each, after its number, which for the first is n
abbrev pub Reports : ℕ → LedgerView → List Record → List ℕ → LedgerView → Type 0
Reports n old [] text new = (text ≡ []) × (new ≡ old)
Reports n old (r ∷ rs) text new = (lines : List (List ℕ)) × (mid : LedgerView) × (more : List ℕ) × Step old r lines mid
    × (text ≡ flat_map (numbered n) lines ++ more) × Reports (n + 1) mid rs more new

-- the reader's bytes, if the proof can see them, are this input. It sees those of a reader over memory, and not those of a file, of
-- which this says nothing
abbrev pub Tells : Option (List ℕ) → List ℕ → Type 0
Tells None input = ⊤
Tells (Some xs) input = xs ≡ input

-- for every input: all records that it begins with, up to its end or to the last number, are answered by a report, which is written
pub record Headline (given held holds : Option (List ℕ)) (old new : LedgerView) (n : ℕ) : Type 0 where
  pub input : List ℕ
  pub records : List Record
  pub rest : List ℕ
  pub text : List ℕ
  pub told : Tells given input
  pub read : AreRecords input records rest
  pub all : (rest ≡ []) ⊎ (n ≡ most_records)
  pub answered : n ≡ length records
  pub report : Reports 1 old records text new
  pub written : Appends held holds text
