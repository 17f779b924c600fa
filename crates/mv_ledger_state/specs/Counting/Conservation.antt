-- Conservation over a run: what is stored and unpacked after it is what was stored before and packed in it.
--   IsEntryCall modules call           a call of an entry function, with leaves for arguments
--   IsFineStorage modules storage      a storage that a run may begin with
--   Conserves modules old new events   of each scarce struct: stored after + unpacked = stored before + packed
--   EveryRunIsOwnWork                  of every run that returns: structs are made and taken apart by code of their own modules
--   EveryRunConserves                  every run of an entry function that returns conserves, over a store and a storage that are fine
-- IsLeaf is a part of these.
use Rattle.std.specs.Prelude.{◌≡◌, ℕ, ◌+◌, IsTrue, List, Some, slice_get}
use Rattle.std.specs.List.{AllByRecursion}
use Rattle.mv_move_types.specs.Names.{StructName}
use Rattle.mv_move_types.specs.Module.{Module, FunctionDefinition}
use Rattle.mv_machine.specs.Value.{Value, Leaf, Struct, Ref}
use Rattle.mv_machine.specs.State.{Storage, Event}
use Rattle.mv_machine.specs.Count.{count}
use Rattle.mv_machine.specs.Run.{FunctionCall, packs, unpacks, run}
use Rattle.mv_ledger_state.specs.Counting.Headline.{IsOwnWork}
use Rattle.mv_ledger_state.specs.Counting.Kept.{IsScarce, StorageIsKept, IsAscending}
use Rattle.mv_ledger_state.specs.Counting.Fine.{IsAbleStore}
use Rattle.mv_machine.specs.Returns.{AtReturn}

-- a value is a leaf
abbrev pub IsLeaf : Value → Type 0
IsLeaf (Leaf kind n) = Unit {0}
IsLeaf (Struct name fields) = ⊥
IsLeaf (Ref r) = ⊥

-- a call of an entry function with leaves
pub record IsEntryCall (modules : List Module) (call : FunctionCall) : Type 0 where
  pub home : Module
  pub function : FunctionDefinition
  pub home_is : slice_get modules call.function.place ≡ Some home
  pub function_is : slice_get home.functions call.function.index ≡ Some function
  pub is_entry : IsTrue function.is_entry
  pub leaves : AllByRecursion IsLeaf call.arguments

-- a storage that a run may begin with, and leaves
pub record IsFineStorage (modules : List Module) (storage : Storage) : Type 0 where
  pub kept : StorageIsKept modules storage
  pub ascending : IsAscending storage

-- from one storage to another with these events nothing scarce is lost, nor comes from nothing
pub record Conserves (modules : List Module) (old new : Storage) (events : List Event) : Type 0 where
  pub fine : IsFineStorage modules new
  pub balanced : (name : StructName) → IsScarce modules name → count new name + unpacks name events ≡ count old name + packs name events

-- of every run that returns: each value was made and taken apart by code of its struct's own module
abbrev pub EveryRunIsOwnWork : Type 0
EveryRunIsOwnWork = (modules : List Module) (storage : Storage) (call : FunctionCall) (budget : ℕ) →
    AtReturn (λ new events. IsOwnWork events) (run modules storage call budget)

-- of every run that returns, of an entry function, over a store and a storage that are fine
abbrev pub EveryRunConserves : Type 0
EveryRunConserves = (modules : List Module) (storage : Storage) (call : FunctionCall) (budget : ℕ) →
    IsAbleStore modules → IsFineStorage modules storage → IsEntryCall modules call → AtReturn (Conserves modules storage) (run modules storage call budget)
