-- What storage ends as once words that were lent are given back.
use Rattle.std.specs.Prelude.{ℕ, Bool, ◌≡◌, List, [], length, Option, Some, None, Result, Ok, Err}
use Rattle.std.specs.Borrow.{Lends, follows_so, MutBor, GName, Fml, Array, u128}
use Rattle.std.specs.declared.alloc.AllocError.{AllocError}
use mathlib.Core.Option as maybe
use mir.Syntax.{named}
use Rattle.mv_move_types.specs.declared.tables.Key.{Key}
use Rattle.mv_storage.specs.WordLists.{laid_over}
use Rattle.mv_storage.specs.Map.{overwritten, written_if}
use Rattle.mv_storage.specs.Slots.{written_versions, written_slot, written_at}
use Rattle.mv_storage.specs.declared.slot.Slot.{Slot}
use Rattle.mv_storage.specs.declared.slot.Versions.{Versions}
use Rattle.mv_storage.specs.declared.places.Places.{Places}
use Rattle.mv_storage.specs.declared.overlay.Overlay.{Overlay}
use Rattle.mv_storage.specs.contracts.value.Value as value
use Rattle.mv_storage.specs.contracts.slot.Versions as versions
use Rattle.mv_storage.specs.contracts.slot.Slot as slot
use Rattle.mv_storage.specs.contracts.places.Places as places
use Rattle.mv_storage.specs.contracts.overlay.Overlay as overlay

abbrev pub LendsValue : MutBor (List ℕ) → ℕ → MutBor (List ℕ) → Fml
LendsValue s from r = Lends value.the_row (Array u128 0) s r (λ w. laid_over from w s.now)

abbrev pub LendsVersion : MutBor Versions → ℕ → MutBor (List ℕ) → Fml
LendsVersion s from r = Lends versions.the_row (Array u128 0) s r (written_versions s.now from)

abbrev pub LendsSlot : MutBor Slot → ℕ → MutBor (List ℕ) → Fml
LendsSlot s from r = Lends slot.the_row (Array u128 0) s r (written_slot s.now from)

abbrev pub LendsAt : MutBor Places → Option ℕ → ℕ → MutBor (List ℕ) → Fml
LendsAt s place from r = Lends places.the_row (Array u128 0) s r (written_at s.now place from)

-- an overlay over storage with these words
abbrev pub over_written : Bool → ℕ → Overlay → Key → ℕ → List ℕ → Overlay
over_written lent width o key from words = record o { storage = record (o.storage) { now = written_if lent width o.storage.now key from words } }

abbrev pub LendsLent : MutBor Overlay → Key → ℕ → ℕ → Bool → MutBor (List ℕ) → Fml
LendsLent s key from width lent r = Lends (overlay.the_row (record { mir = named 1; lft = [] })) (Array u128 0) s r (over_written lent width s.now key from)

-- the name of the words that are lent, if any are
abbrev pub lent_name : Result (Option (MutBor (List ℕ))) AllocError → maybe.Option GName
lent_name (Ok (Some r)) = maybe.some r.ghost_name
lent_name (Ok None) = maybe.none
lent_name (Err e) = maybe.none

-- the words that are lent
abbrev pub lent_words : Option (MutBor (List ℕ)) → Option (List ℕ)
lent_words None = None
lent_words (Some r) = Some r.now

-- the overlay that a loan of so many words leaves, which are these in the end: they stand in place of as many
pub record IsEdited (old : Overlay) (key : Key) (from width : ℕ) (words : List ℕ) (new : Overlay) : Type 0 where
  pub current : length words ≡ width → new.storage.now.current ≡ overwritten old.storage.now.current key from words
  pub committed : new.storage.now.committed ≡ old.storage.now.committed
  pub marks : new.storage.now.marks ≡ old.storage.now.marks
  pub loan : new.storage.ghost_name ≡ old.storage.ghost_name

-- the overlay where none were lent: nothing is changed
pub record IsUnedited (old new : Overlay) : Type 0 where
  pub same : new.storage.now ≡ old.storage.now
  pub loan : new.storage.ghost_name ≡ old.storage.ghost_name

abbrev pub LendsWords : MutBor Overlay → Key → ℕ → ℕ → Result (Option (MutBor (List ℕ))) AllocError → Fml
LendsWords s key from width r = follows_so (overlay.the_row (record { mir = named 1; lft = [] })) (Array u128 0) s.ghost_name (lent_name r)
    (λ w n. IsEdited s.now key from width w n) (IsUnedited s.now)
