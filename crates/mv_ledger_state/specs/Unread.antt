-- Why bytes were not read, and what that says of longer ones.
--   IsUnread from bytes e   nothing of the kind stands at their front; where they are malformed, nor at the front of longer ones
--   unread_by refusal       as what a reader's refusal counts: more bytes may help
--   refusal_by e            the refusal of bytes of which a part was not read
use Rattle.std.specs.Prelude.{◌≡◌, ℕ, List, ◌++◌, Option, None, ⊤}
use Rattle.mv_move_types.specs.declared.refusal.Refusal.{Refusal}
use Rattle.mv_move_types.specs.declared.refusal.Refusal.TheVariants.{Phase, Memory as NoMemory}
use Rattle.mv_ledger_state.specs.declared.unread.Unread.{Unread}
use Rattle.mv_ledger_state.specs.declared.unread.Unread.TheVariants.{Cut, Malformed, Memory}

-- why nothing was read at the front of bytes
abbrev pub IsUnread : {A : Type 0} → (List ℕ → Option A) → List ℕ → Unread → Type 0
IsUnread from bytes Cut = from bytes ≡ None
IsUnread from bytes Malformed = (more : List ℕ) → from (bytes ++ more) ≡ None
IsUnread from bytes Memory = ⊤

-- what a reader refuses may be read with more bytes behind it
abbrev pub unread_by : Refusal → Unread
unread_by (Phase phase) = Cut
unread_by NoMemory = Memory

-- bytes of which a part was not read are malformed
abbrev pub refusal_by : Unread → Refusal
refusal_by Cut = Phase 2
refusal_by Malformed = Phase 2
refusal_by Memory = NoMemory
