-- What the questions of C come to, by their status.
--   format_in form                              the format of a form: 0 stands for lines, 1 for JSON
--   struct_in home module name                  the struct that is named by an address and two texts
--   shown_text l values format                  what a show would tell of these values alone, as bytes
--   names_text modules                          the names of modules as lines
--   IsTold, IsToldOf, IsToldIn                  a text that is asked for by a name is given, or there is none by this name
--   AreTexts, AreTextsOf                        the bytes of a module and of its certificate
--   IsGivenPage, IsPageIn                       a page of the values of a struct, and where the next page goes on
--   IsCounted                                   the number of runs
--   IsTallyOf                                   the tally of a struct
-- Each says what a call gives, for each status that it may answer. The others are parts of these.
use Rattle.std.specs.Prelude.{◌≡◌, ℕ, zero, suc, ◌<◌, ◌^◌, ℤ, List, [], ◌++◌, codes, map, Option, Some, None, ◌⊎◌}
use Rattle.std.specs.Option.{option_map_or}
use Rattle.mv_move_types.specs.Module.{own_name}
use Rattle.mv_move_types.specs.Names.{ModuleName, StructName}
use Rattle.mv_move_types.specs.Numbers.{big_endian}
use Rattle.mv_move_types.specs.Published.{PublishedModule}
use Rattle.mv_linker.specs.Questions.{texts_of}
use Rattle.mv_machine.specs.Flat.{FlatEntry}
use Rattle.mv_machine.specs.Ledger.{AsJson, AsText, Format}
use Rattle.mv_machine.specs.Lines.{address_text, Tallied}
use Rattle.mv_lines.specs.LinesView.{ended, LinesView}
use Rattle.mv_ledger.specs.Questions.{shows, tally_named, IsShownPage}
use Rattle.mv_ledger_state.specs.View.{LedgerView}
use Rattle.moveledger_c.specs.Statuses.{done, memory, arguments, absent}

-- the format of a form
abbrev pub format_in : ℕ → Option Format
format_in zero = Some AsText
format_in (suc zero) = Some AsJson
format_in (suc (suc n)) = None

-- the struct of a name in the module of a name at an address
abbrev pub struct_in : (home module' name : List ℕ) → StructName
struct_in home module' name = record { home = record { address = big_endian home; name = module' }; name = name }

-- what a show would tell of these values alone
abbrev pub shown_text : LedgerView → List FlatEntry → Format → List ℕ
shown_text l values format = ended (shows l values format).left

-- the line of a module's name
abbrev pub name_line : ModuleName → List ℕ
name_line name = address_text name.address ++ codes "::" ++ name.name

-- the names of modules, each in a line
abbrev pub names_text : List PublishedModule → List ℕ
names_text modules = ended (map (λ p. option_map_or name_line (own_name p.tables) []) modules)

-- this text is given, or memory ran out; where there is none by this name, that is told
abbrev pub IsTold : Option (List ℕ) → ℤ → List ℕ → Type 0
IsTold None status text = (status ≡ absent) × (text ≡ [])
IsTold (Some told) status text = ((status ≡ done) × (text ≡ told)) ⊎ ((status ≡ memory) × (text ≡ []))

-- what is asked of the ledger that is held is told; with no ledger nothing is
abbrev pub IsToldOf : (LedgerView → Option (List ℕ)) → Option LedgerView → ℤ → List ℕ → Type 0
IsToldOf asked None status text = (status ≡ arguments) × (text ≡ [])
IsToldOf asked (Some l) status text = IsTold (asked l) status text

-- it is told in a format; with a form that there is not nothing is
abbrev pub IsToldIn : (Format → LedgerView → Option (List ℕ)) → Option Format → Option LedgerView → ℤ → List ℕ → Type 0
IsToldIn asked None held status text = (status ≡ arguments) × (text ≡ [])
IsToldIn asked (Some format) held status text = IsToldOf (asked format) held status text

-- the bytes of a module and of its certificate are given, or memory ran out, and neither is
abbrev pub AreTexts : Option (List ℕ × List ℕ) → ℤ → (text certificate : List ℕ) → Type 0
AreTexts None status text certificate = (status ≡ absent) × (text ≡ []) × (certificate ≡ [])
AreTexts (Some p) status text certificate =
    ((status ≡ done) × (text ≡ p.0) × (certificate ≡ p.1)) ⊎ ((status ≡ memory) × (text ≡ []) × (certificate ≡ []))

-- those of the module of a name in the ledger that is held; with no ledger nothing is given
abbrev pub AreTextsOf : ModuleName → Option LedgerView → ℤ → (text certificate : List ℕ) → Type 0
AreTextsOf name None status text certificate = (status ≡ arguments) × (text ≡ []) × (certificate ≡ [])
AreTextsOf name (Some l) status text certificate = AreTexts (texts_of l.published name) status text certificate

-- the next page goes on at this address, or there is none
abbrev pub GoesOnAt : Option ℕ → (from next is_more : ℕ) → Type 0
GoesOnAt None from next is_more = (next ≡ from) × (is_more ≡ 0)
GoesOnAt (Some address) from next is_more = (next ≡ address) × (is_more ≡ 1)

-- nothing of a page is given
abbrev pub IsNoPage : (from next is_more : ℕ) → List ℕ → Type 0
IsNoPage from next is_more text = (next ≡ from) × (is_more ≡ 0) × (text ≡ [])

-- A page of the values of a struct from an address on, for which so many keys are looked at, is given, and where the next page goes
-- on; or there is no such struct; or memory ran out.
abbrev pub IsGivenPage : Format → StructName → (from most : ℕ) → LedgerView → ℤ → (next is_more : ℕ) → List ℕ → Type 0
IsGivenPage format name from most l status next is_more text =
    ((status ≡ done) × (r : LinesView × Option ℕ) × IsShownPage l name from most format (Some r) × GoesOnAt r.1 from next is_more × (text ≡ ended r.0.left))
    ⊎ (((status ≡ absent) × IsShownPage l name from most format None × IsNoPage from next is_more text)
    ⊎ ((status ≡ memory) × IsNoPage from next is_more text))

-- one of the ledger that is held is given in a format; with no ledger, or with a form that there is not, none is
abbrev pub IsPageIn : Option Format → StructName → (from most : ℕ) → Option LedgerView → ℤ → (next is_more : ℕ) → List ℕ → Type 0
IsPageIn None name from most held status next is_more text = (status ≡ arguments) × IsNoPage from next is_more text
IsPageIn (Some format) name from most None status next is_more text = (status ≡ arguments) × IsNoPage from next is_more text
IsPageIn (Some format) name from most (Some l) status next is_more text = IsGivenPage format name from most l status next is_more text

-- the number of runs of the ledger that is held; with no ledger none is told
abbrev pub IsCounted : Option LedgerView → ℤ → ℕ → Type 0
IsCounted None status runs = (status ≡ arguments) × (runs ≡ 0)
IsCounted (Some l) status runs = (status ≡ done) × (runs ≡ l.runs)

-- a number that 64 bits hold is told
abbrev pub IsWord : ℕ → ℕ → Type 0
IsWord n told = n < 2 ^ 64 → told ≡ n

-- how many values were packed, and how many unpacked, is told; where there is no such tally, that is
abbrev pub IsTally : Option Tallied → ℤ → (packed unpacked : ℕ) → Type 0
IsTally None status packed unpacked = (status ≡ absent) × (packed ≡ 0) × (unpacked ≡ 0)
IsTally (Some t) status packed unpacked = (status ≡ done) × IsWord t.packs packed × IsWord t.unpacks unpacked

-- the tally of a struct in the ledger that is held; with no ledger none is told
abbrev pub IsTallyOf : StructName → Option LedgerView → ℤ → (packed unpacked : ℕ) → Type 0
IsTallyOf name None status packed unpacked = (status ≡ arguments) × (packed ≡ 0) × (unpacked ≡ 0)
IsTallyOf name (Some l) status packed unpacked = IsTally (tally_named l.tallies name) status packed unpacked
