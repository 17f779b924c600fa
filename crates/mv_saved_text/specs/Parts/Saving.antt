-- How the values that are stored are written struct by struct.
--   leaf_length kind                        how many bytes a leaf of a kind has
--   sections_of rows                        the sections of the structs of each module
--   section_at rows d                       the section of a struct
--   stored_in modules entries d             the values that are stored of a struct
--   is_between first last d                 whether a struct stands between two others, or where one of them does
--   stored_between first last entries       the values that are stored of such structs
--   AreSections modules entries rows        each struct's section has their number and their text
--   HaveSections modules entries rows ds    so have the sections of these structs
--   KnowsKinds modules d s                  a section that a value is in has the kinds of its leaves
--   IsAdded rows d kinds bytes after        one struct's section has one value more
--   AddsValue modules rows key words after  so has that of a key's struct, with these words
--   counts_text tallies                     what was made and what was taken apart of each struct
--   written runs published stored tallies   a ledger with these parts, as it is written
use Rattle.std.specs.Prelude.{◌≡◌, ℕ, ◌+◌, ◌^◌, ◌<◌, ◌&&◌, ◌||◌, ◌==◌, nat_lt, nat_le, Bool, false, All, List, [], ◌++◌, map, length, Option, Some, slice_get}
use Rattle.std.specs.List.{flat_map, filter}
use Rattle.std.specs.Option.{IsSome}
use Rattle.std.specs.declared.vec.Vec.{Vec}
use Rattle.std.specs.declared.alloc.Global.{Global}
use Rattle.mv_uleb.specs.Uleb.{uleb}
use Rattle.mv_move_types.specs.declared.tables.Definition.{Definition}
use Rattle.mv_move_types.specs.declared.tables.Key.{Key}
use Rattle.mv_move_types.specs.declared.token.LeafKind.{LeafKind}
use Rattle.mv_move_types.specs.Options.{◌>>=◌}
use Rattle.mv_move_types.specs.Module.{Module, StructDefinition}
use Rattle.mv_move_types.specs.Published.{PublishedModule}
use Rattle.mv_module_text.specs.Entries.{address_text}
use Rattle.mv_machine.specs.State.{Storage}
use Rattle.mv_machine.specs.Flat.{FlatEntry, storage_of}
use Rattle.mv_link_rules.specs.Link.{tables_in}
use Rattle.mv_saved_text.specs.declared.saving.Section.{Section}
use Rattle.mv_machine.specs.declared.Tally.{Tally}
use Rattle.mv_saved_text.specs.Layouts.{coded, kinds_under}
use Rattle.mv_saved_text.specs.SavedText.{Second, addressed_text, head_text, is_under, keyed_from, struct_text}
use Rattle.mv_ledger_state.specs.Publishing.{offered}
use Rattle.mv_ledger_state.specs.RecordText.{leaf_bytes}
use Rattle.mv_frames.specs.Counters.{is_same_definition}

-- how many bytes a leaf of a kind has: each as many as 0
abbrev pub leaf_length : LeafKind → ℕ
leaf_length kind = length (leaf_bytes kind 0)

-- the sections of the structs of each module
abbrev pub sections_of : List (Vec Section Global) → List (List Section)
sections_of rows = map (λ r. r.items) rows

-- the section of the struct at a place and an index
abbrev pub section_at : List (List Section) → Definition → Option Section
section_at rows d = slice_get rows d.place >>= λ row. slice_get row d.index

-- the struct at a place and an index
abbrev pub definition_at : List Module → Definition → Option StructDefinition
definition_at modules d = slice_get modules d.place >>= λ m. slice_get m.structs d.index

-- the values that are stored of a struct
abbrev pub stored_in : List Module → List FlatEntry → Definition → Storage
stored_in modules entries d = filter (is_under d) (storage_of modules entries)

-- the struct of a key
abbrev pub struct_under : Key → Definition
struct_under key = record { place = key.place; index = key.index }

-- whether a struct stands where another does or before it, by the place of its module and its index
abbrev pub is_by : Definition → Definition → Bool
is_by d e = nat_lt d.place e.place || ((d.place == e.place) && nat_le d.index e.index)

-- whether a struct stands between two others, or where one of them does
abbrev pub is_between : Definition → Definition → Definition → Bool
is_between first last d = is_by first d && is_by d last

-- the values that are stored of the structs from one to another
abbrev pub stored_between : Definition → Definition → List FlatEntry → List FlatEntry
stored_between first last entries = filter (λ e. is_between first last (struct_under e.key)) entries

-- a section that a value is in has the kinds of the leaves of its struct's values
abbrev pub KnowsKinds : List Module → Definition → Section → Type 0
KnowsKinds modules d s = 0 < s.count → kinds_under modules d ≡ Some s.kinds.items

-- a section has the number and the text of those of a struct, and the kinds of their leaves
pub record IsSection (modules : List Module) (entries : List FlatEntry) (d : Definition) (s : Section) : Type 0 where
  pub count : s.count ≡ length (stored_in modules entries d)
  pub text : s.text.items ≡ flat_map addressed_text (stored_in modules entries d)
  pub known : KnowsKinds modules d s

-- each struct has its section
pub record AreSections (modules : List Module) (entries : List FlatEntry) (rows : List (List Section)) : Type 0 where
  pub there : (d : Definition) → IsSome (definition_at modules d) → IsSome (section_at rows d)
  pub each : (d : Definition) (s : Section) → section_at rows d ≡ Some s → IsSection modules entries d s

-- a struct has its section
pub record HasSection (modules : List Module) (entries : List FlatEntry) (rows : List (List Section)) (d : Definition) : Type 0 where
  pub section : Section
  pub section_is : section_at rows d ≡ Some section
  pub is : IsSection modules entries d section

-- each of these structs has
abbrev pub HaveSections : List Module → List FlatEntry → List (List Section) → List Definition → Type 0
HaveSections modules entries rows ds = All (HasSection modules entries rows) ds

-- one section is another with these bytes as one value more, of leaves of these kinds
pub record HasOneMore (s : Section) (kinds : List LeafKind) (bytes : List ℕ) (t : Section) : Type 0 where
  pub count : t.count ≡ s.count + 1
  pub kinds_are : t.kinds.items ≡ kinds
  pub text : t.text.items ≡ s.text.items ++ bytes

-- these bytes were added to the section of a struct, as one value more; each other section is as it was
pub record IsAdded (rows : List (List Section)) (d : Definition) (kinds : List LeafKind) (bytes : List ℕ) (after : List (List Section)) : Type 0 where
  pub here : (s : Section) → section_at rows d ≡ Some s → (t : Section) × (section_at after d ≡ Some t) × HasOneMore s kinds bytes t
  pub others : (e : Definition) → is_same_definition d e ≡ false → section_at after e ≡ section_at rows e

-- a value with these words was added to the section of its key's struct
pub record AddsValue (modules : List Module) (rows : List (List Section)) (key : Key) (words : List ℕ) (after : List (List Section)) : Type 0 where
  pub kinds : List LeafKind
  pub kinds_are : kinds_under modules (struct_under key) ≡ Some kinds
  pub added : IsAdded rows (struct_under key) kinds (address_text key.address ++ coded kinds words) after

-- the tallies' counts, in order
abbrev pub counts_text : List Tally → List ℕ
counts_text = flat_map (λ t. uleb t.packs ++ uleb t.unpacks)

-- a section that nothing is in
pub record IsEmpty (s : Section) : Type 0 where
  pub count : s.count ≡ 0
  pub text : s.text.items ≡ []

-- a tally's counts can be written
pub record IsWritable (t : Tally) : Type 0 where
  pub packs : t.packs < 2 ^ 64
  pub unpacks : t.unpacks < 2 ^ 64

-- a ledger with these parts, as it is written
abbrev pub written : ℕ → List PublishedModule → List FlatEntry → List Tally → List ℕ
written runs published stored tallies =
    (head_text Second runs (map offered published) ++ counts_text tallies)
    ++ flat_map (struct_text (storage_of (tables_in published) stored)) (keyed_from 0 (tables_in published))
