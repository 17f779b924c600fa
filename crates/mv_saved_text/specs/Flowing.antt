-- A save piece by piece.
--   left_of position s            what is still to be written of a ledger from a position on
--   SavingView, left_in v s       how far a save is, and what it has yet to give of a ledger
--   new_save                      a save at its beginning
--   GivesNext s old piece new     a save gives the next bytes of what is left, or none where nothing is
--   AreGiven s v pieces           a save gives these pieces of a ledger, and then none
--   EachSaveFlows s               all pieces of a save, one after the other, are the ledger's saved text
-- The others are parts of these.
use Rattle.std.specs.Prelude.{◌≡◌, ℕ, ◌+◌, ◌≤◌, ◌&&◌, nat_le, List, [], ◌∷◌, ◌++◌, map, flat_map, length, drop, Option, Some, None, slice_get}
use Rattle.std.specs.List.{filter}
use Rattle.std.specs.Option.{option_map_or}
use Rattle.std.specs.Global.{Vec}
use Rattle.mv_move_types.specs.declared.tables.Definition.{Definition}
use Rattle.mv_machine.specs.State.{Storage}
use Rattle.mv_machine.specs.Ledger.{LedgerState, modules_of}
use Rattle.mv_ledger_state.specs.RecordText.{offer_text}
use Rattle.mv_ledger_state.specs.Publishing.{offered}
use Rattle.mv_saved_text.specs.SavedText.{IsSavedText, Second, addressed_text, body_text, is_under, keyed_from, saved_text, struct_text}
use Rattle.mv_saved_text.specs.declared.position.Position.{Position}
use Rattle.mv_saved_text.specs.declared.position.Position.TheVariants.{Head, Modules, Counts, Sections, Values, End}

-- the structs of a ledger that have key, in order
abbrev pub keyed_of : LedgerState → List Definition
keyed_of s = keyed_from 0 (modules_of s)

-- the values that are stored of a struct at addresses from one on
abbrev pub values_text : Storage → Definition → ℕ → List ℕ
values_text storage d from = flat_map addressed_text (filter (λ e. is_under d e && nat_le from e.key.address) storage)

-- the values of the structs with key, but for so many structs
abbrev pub sections_after : LedgerState → ℕ → List ℕ
sections_after s i = flat_map (struct_text s.storage) (drop i (keyed_of s))

-- what is still to be written of a ledger from a position on
abbrev pub left_of : Position → LedgerState → List ℕ
left_of Head s = saved_text Second s
left_of (Modules place) s = flat_map offer_text (map offered (drop place s.published)) ++ body_text Second s
left_of Counts s = body_text Second s
left_of (Sections i) s = sections_after s i
left_of (Values i from) s = option_map_or (λ d. values_text s.storage d from) (slice_get (keyed_of s) i) [] ++ sections_after s (i + 1)
left_of End s = []

-- bytes that were made and not yet given, and from where on bytes have to be made
pub record SavingView : Type 0 where
  pub ready : List ℕ
  pub position : Position

-- a save at its beginning
abbrev pub new_save : SavingView
new_save = record { ready = []; position = Head }

-- what a save has yet to give of a ledger
abbrev pub left_in : SavingView → LedgerState → List ℕ
left_in v s = v.ready ++ left_of v.position s

-- a save gives the next bytes of what is left of a ledger, at most 65,536; or nothing is left
abbrev pub GivesNext : LedgerState → SavingView → Option (Vec ℕ) → SavingView → Type 0
GivesNext s old None new = (left_in old s ≡ []) × (left_in new s ≡ [])
GivesNext s old (Some piece) new = (left_in old s ≡ piece.items ++ left_in new s) × (1 ≤ length piece.items) × (length piece.items ≤ 65536)

-- these pieces of a ledger are given one after the other, and then none
abbrev pub AreGiven : LedgerState → SavingView → List (Vec ℕ) → Type 0
AreGiven s v [] = (w : SavingView) × GivesNext s v None w
AreGiven s v (piece ∷ pieces) = (w : SavingView) × GivesNext s v (Some piece) w × AreGiven s w pieces

-- The pieces that a save gives of a ledger from the beginning to the end are, one after the other, its saved text.
abbrev pub EachSaveFlows : LedgerState → Type 0
EachSaveFlows s = (pieces : List (Vec ℕ)) → AreGiven s new_save pieces → IsSavedText Second (flat_map (λ p. p.items) pieces) s
