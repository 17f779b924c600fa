-- What a ledger is asked by names and addresses.
--   key_of, words_of, entry_of held address name   the key of a struct's value at an address, its words, and both
--   stored_at address entries                      the values at an address
--   shows held entries format                      what a show would tell of these values alone
--   IsPageOf held name from most result            a page of the values of a struct
--   IsShownPage held name from most format result  what a show would tell of such a page alone, and where the next one goes on
--   tally_named tallies name                       the tally of a struct
use Rattle.std.specs.Prelude.{◌≡◌, ℕ, ◌==◌, List, Option, Some, None, option_map, find, MatchOption}
use Rattle.std.specs.List.{filter}
use Rattle.std.specs.Option.{option_and_then}
use Rattle.mv_move_types.specs.declared.tables.Definition.{Definition}
use Rattle.mv_move_types.specs.declared.tables.Key.{Key}
use Rattle.mv_move_types.specs.Names.{StructName, same_struct}
use Rattle.mv_link_rules.specs.Link.{tables_in}
use Rattle.mv_linker.specs.Questions.{struct_place}
use Rattle.mv_machine.specs.Flat.{FlatEntry}
use Rattle.mv_machine.specs.Ledger.{Format, shown}
use Rattle.mv_machine.specs.Lines.{Tallied}
use Rattle.mv_storage.specs.FlatStorage.{words_under}
use Rattle.mv_storage.specs.Pages.{PageView, IsPage}
use Rattle.mv_lines.specs.LinesView.{LinesView}
use Rattle.mv_ledger_state.specs.View.{LedgerView, state_of}

-- the key of a struct's value at an address
abbrev pub key_in : ℕ → Definition → Key
key_in address d = record { address = address; place = d.place; index = d.index }

-- the same for the struct of a name, if it is published
abbrev pub key_of : LedgerView → ℕ → StructName → Option Key
key_of held address name = option_map (key_in address) (struct_place (tables_in held.published) name)

-- the words of the value of a struct that is stored at an address, if there is one
abbrev pub words_of : LedgerView → ℕ → StructName → Option (List ℕ)
words_of held address name = option_and_then (words_under held.stored) (key_of held address name)

-- that value with its key
abbrev pub entry_of : LedgerView → ℕ → StructName → Option FlatEntry
entry_of held address name =
    option_and_then (λ key. option_map (λ words. record { key = key; words = words }) (words_under held.stored key)) (key_of held address name)

-- the values that are stored at an address
abbrev pub stored_at : ℕ → List FlatEntry → List FlatEntry
stored_at address entries = filter (λ e. e.key.address == address) entries

-- what a show tells of a ledger that has these values and no others
abbrev pub shows : LedgerView → List FlatEntry → Format → LinesView
shows held entries format = record { format = format; left = shown (state_of (record held { stored = entries })) format }

-- a page of the values of a struct, or none where no such struct is published
abbrev pub IsPageOf : LedgerView → StructName → ℕ → ℕ → Option PageView → Type 0
IsPageOf held name from most result =
    MatchOption result (struct_place (tables_in held.published) name ≡ None)
    (λ page. (d : Definition) × (struct_place (tables_in held.published) name ≡ Some d) × IsPage held.stored d from most page)

-- what a show would tell of a page, and the address from which the next one goes on; or none where no such struct is published
abbrev pub IsShownPage : LedgerView → StructName → ℕ → ℕ → Format → Option (LinesView × Option ℕ) → Type 0
IsShownPage held name from most format result =
    MatchOption result (struct_place (tables_in held.published) name ≡ None)
    (λ r. (d : Definition) × (page : PageView) × (struct_place (tables_in held.published) name ≡ Some d) × IsPage held.stored d from most page
    × (r.0 ≡ shows held page.values format) × (r.1 ≡ page.next))

-- the tally of a struct
abbrev pub tally_named : List Tallied → StructName → Option Tallied
tally_named tallies name = find (λ t. same_struct t.struct name) tallies
