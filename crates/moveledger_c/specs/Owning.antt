-- What C holds of the library's memory.
use Rattle.std.specs.Prelude.{◌≡◌, ℕ, List, [], Option, Some, None}
use Rattle.std.specs.Vec.{vec_ptr, vec_len}
use Rattle.std.specs.Global.{Global, Vec}
use Rattle.mv_ledger_state.specs.View.{LedgerView}
use Rattle.mv_saved_text.specs.Flowing.{SavingView}
use Rattle.std.specs.contracts.vec.Vec as vec
use Rattle.std.specs.contracts.alloc.Global as heap
use Rattle.std.specs.contracts.impls.GlobalAllocator.TheImpl.{ghosts}
use denote.Builtin.{u8}
use denote.RattleType.{RattleType}
use Rattle.std.specs.Box.Ownership.{box_owns}
use base.Fml.{Fml, ftrue, ffalse, fsep, fex}
use denote.RawPtr.{Ptr, block_ptr, null_ptr}
use Rattle.mv_ledger.specs.contracts.Ledger as ledger
use Rattle.mv_saved_text.specs.contracts.flowing.Saving as saving

-- a value on the heap, or none at null
abbrev pub holds_value : (R : RattleType) → Ptr → Option R.Denot → Fml
holds_value R (block_ptr b o) (Some x) = fex Global (λ a. box_owns (ghosts.dealloc_token a) R (block_ptr b o) x)
holds_value R (block_ptr b o) None = ffalse
holds_value R null_ptr (Some x) = ffalse
holds_value R null_ptr None = ftrue

-- a ledger on the heap, or none at null
abbrev pub holds_ledger : Ptr → Option LedgerView → Fml
holds_ledger = holds_value ledger.the_row

-- a save on the heap, or none at null
abbrev pub holds_saving : Ptr → Option SavingView → Fml
holds_saving = holds_value saving.the_row

-- this is so
abbrev pub holds : Type 0 → Fml
holds P = fex P (λ _. ftrue)

-- the list is of these bytes, which are so many and lie at this pointer
abbrev pub IsListOf : Ptr → ℕ → List ℕ → Vec ℕ → Type 0
IsListOf at n xs v = (v.items ≡ xs) × (vec_ptr v ≡ at) × (vec_len v ≡ n)

-- these bytes, so many, at the first pointer, in a list that is on the heap at the second; or none, where that is null
abbrev pub holds_bytes : Ptr → ℕ → Ptr → List ℕ → Fml
holds_bytes at n (block_ptr b o) xs = fex Global (λ a. fex (Vec ℕ) (λ v.
    fsep (holds (IsListOf at n xs v)) (box_owns (ghosts.dealloc_token a) (vec.the_row u8 heap.the_row ghosts) (block_ptr b o) v)))
holds_bytes at n null_ptr xs = holds ((xs ≡ []) × (n ≡ 0))
