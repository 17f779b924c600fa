-- Worked runs of coins and calls, by computation.
use Rattle.mv_machine.proofs.Common.{[], ℕ, ◌++◌, ◌∷◌, ◌≡◌, List, false, refl, true, codes, FunctionDefinition, Module, Instruction, Call, CopyLoc, ImmBorrowGlobal, ImmBorrowLoc, LdU64}
use Rattle.mv_machine.proofs.Common.{MoveFrom, MoveLoc, MoveTo, MutBorrowField, MutBorrowGlobal, MutBorrowLoc, Pack, Pop, Ret, StLoc, Unpack, WriteRef, Public, Address, Number, Signer}
use Rattle.mv_machine.proofs.Common.{MutableReference, Plain, OfLeaf, OfStruct, U64, Aborted, Faulted, FunctionCall, Returned, run, LinkageFault, Leaf, More, NoMore, Struct}
use Rattle.mv_machine.proofs.Common.{Missing}
use Rattle.mv_move_types.specs.declared.tables.Visibility.{Visibility}
use Rattle.mv_move_types.specs.declared.tables.Visibility.TheVariants.{Private}
use Rattle.mv_move_types.specs.declared.token.Token.TheVariants.{Reference}
use Rattle.mv_machine.specs.Typing.{TypeFault}
use Rattle.mv_machine.proofs.Coin.{coin_module, coin, one_coin}
use Rattle.mv_machine.proofs.Computed.{computed}
use Rattle.mv_machine.proofs.Rows.{two_numbers, one_function, steps_of}

-- the coin module with burn, and with one more function of an address
abbrev more_coin : List FunctionDefinition → Module
more_coin functions = record coin_module {
  function_handles = record { «module» = 0; name = 3; parameters = 1; results = 0 } ∷ record { «module» = 0; name = 4; parameters = 2; results = 0 } ∷ record { «module» = 0; name = 0; parameters = 2; results = 0 } ∷ [];
  signatures = [] ∷ (Plain (OfLeaf Signer) ∷ Plain (OfLeaf (Number U64)) ∷ []) ∷ (Plain (OfLeaf Address) ∷ []) ∷ (Reference (OfStruct 0) ∷ []) ∷ [];
  identifiers = coin_module.identifiers ++ codes "burn" ∷ [];
  functions = coin_module.functions ++ record { handle = 1; visibility = Public; is_entry = true; acquires = 0 ∷ []; locals = 0; code = MoveLoc 0 ∷ MoveFrom 0 ∷ Unpack 0 ∷ Pop ∷ Ret ∷ [] } ∷ functions;
  field_handles = record { definition = 0; position = 0 } ∷ [];
}

abbrev burnable : Module
burnable = record (more_coin []) { function_handles = record { «module» = 0; name = 3; parameters = 1; results = 0 } ∷ record { «module» = 0; name = 4; parameters = 2; results = 0 } ∷ [] }

abbrev burn : FunctionCall
burn = record { function = record { place = 0; index = 1 }; arguments = Leaf Address 1 ∷ [] }

burned : run (burnable ∷ []) one_coin burn 100 ≡ Returned 5 [] (record { is_pack = false; struct = coin; by = coin.home } ∷ [])
unfolding computed
burned = refl

burned_twice : run (burnable ∷ []) [] burn 100 ≡ Aborted Missing 0 2
unfolding computed
burned_twice = refl

-- a coin is borrowed while burn takes it
abbrev third : List ℕ → ℕ → List Instruction → Module
third acquires locals code = more_coin (record { handle = 2; visibility = Public; is_entry = true; acquires = acquires; locals = locals; code = code } ∷ [])

abbrev let_go : Module
let_go = third (0 ∷ []) 3 (CopyLoc 0 ∷ ImmBorrowGlobal 0 ∷ StLoc 1 ∷ MoveLoc 1 ∷ Pop ∷ CopyLoc 0 ∷ Call 1 ∷ Ret ∷ [])

abbrev setting : Module
setting = third (0 ∷ []) 0 (LdU64 9 ∷ MoveLoc 0 ∷ MutBorrowGlobal 0 ∷ MutBorrowField 0 ∷ WriteRef ∷ Ret ∷ [])

let_go_returns : run (let_go ∷ []) one_coin (record { function = record { place = 0; index = 2 }; arguments = Leaf Address 1 ∷ [] }) 100
    ≡ Returned 13 [] (record { is_pack = false; struct = coin; by = coin.home } ∷ [])
unfolding computed
let_go_returns = refl

set_returns : run (setting ∷ []) one_coin (record { function = record { place = 0; index = 2 }; arguments = Leaf Address 1 ∷ [] }) 100
    ≡ Returned 6 (record { key = record { address = 1; place = 0; index = 0 }; value = Struct coin (More (Leaf (Number U64) 9) NoMore) } ∷ []) []
unfolding computed
set_returns = refl

-- a module that calls mint of the coin module
abbrev caller : Module
caller = record {
  version = 5;
  module_handles = record { address = 0; name = 0 } ∷ record { address = 0; name = 1 } ∷ [];
  struct_handles = [];
  function_handles = record { «module» = 0; name = 2; parameters = 1; results = 0 } ∷ record { «module» = 1; name = 3; parameters = 2; results = 0 } ∷ [];
  signatures = [] ∷ (Plain (OfLeaf Signer) ∷ []) ∷ (Plain (OfLeaf Signer) ∷ Plain (OfLeaf (Number U64)) ∷ []) ∷ [];
  constants = [];
  identifiers = codes "N" ∷ codes "M" ∷ codes "go" ∷ codes "mint" ∷ [];
  addresses = 1 ∷ [];
  structs = [];
  functions = record { handle = 0; visibility = Public; is_entry = true; acquires = []; locals = 0; code = MoveLoc 0 ∷ LdU64 3 ∷ Call 1 ∷ Ret ∷ [] } ∷ [];
  field_handles = [];
  own = 0;
}

abbrev with_visibility : Visibility → Module
with_visibility v = record coin_module { functions = record { handle = 0; visibility = v; is_entry = true; acquires = []; locals = 0; code = ImmBorrowLoc 0 ∷ MoveLoc 1 ∷ Pack 0 ∷ MoveTo 0 ∷ Ret ∷ [] } ∷ [] }

abbrev go : FunctionCall
go = record { function = record { place = 0; index = 0 }; arguments = Leaf Signer 1 ∷ [] }

calls_other : run (caller ∷ coin_module ∷ []) [] go 100
    ≡ Returned 9 (record { key = record { address = 1; place = 1; index = 0 }; value = Struct coin (More (Leaf (Number U64) 3) NoMore) } ∷ [])
    (record { is_pack = true; struct = coin; by = coin.home } ∷ [])
unfolding computed
calls_other = refl

calls_private : run (caller ∷ with_visibility Private ∷ []) [] go 100 ≡ Faulted LinkageFault 3
unfolding computed
calls_private = refl

-- a function that lends a field of its argument, and one that calls it
abbrev lending : List Instruction → Module
lending code = record (one_function [] [] []) {
  function_handles = record { «module» = 0; name = 2; parameters = 0; results = 1 } ∷ record { «module» = 0; name = 3; parameters = 2; results = 2 } ∷ [];
  signatures = (MutableReference (OfStruct 0) ∷ []) ∷ (MutableReference (OfLeaf (Number U64)) ∷ []) ∷ [] ∷ (two_numbers ∷ MutableReference (OfLeaf (Number U64)) ∷ []) ∷ [];
  functions = record { handle = 0; visibility = Public; is_entry = false; acquires = []; locals = 2; code = MoveLoc 0 ∷ MutBorrowField 0 ∷ Ret ∷ [] }
      ∷ record { handle = 1; visibility = Public; is_entry = true; acquires = []; locals = 3; code = code } ∷ [];
}

abbrev kept : Module
kept = lending (LdU64 1 ∷ LdU64 2 ∷ Pack 0 ∷ StLoc 0 ∷ MutBorrowLoc 0 ∷ Call 0 ∷ StLoc 1 ∷ LdU64 9 ∷ MoveLoc 1 ∷ WriteRef ∷ Ret ∷ [])

abbrev taken_apart : Module
taken_apart = lending (LdU64 1 ∷ LdU64 2 ∷ Pack 0 ∷ StLoc 0 ∷ MutBorrowLoc 0 ∷ Call 0 ∷ StLoc 1 ∷ MoveLoc 0 ∷ Unpack 0 ∷ Pop ∷ Pop ∷ LdU64 9 ∷ MoveLoc 1 ∷ WriteRef ∷ Ret ∷ [])

kept_returns : steps_of (run (kept ∷ []) [] (record { function = record { place = 0; index = 1 }; arguments = [] }) 100) ≡ 14
unfolding computed
kept_returns = refl

-- run without a certificate, a reference leads into a local that is moved, so that it has no tag where it is moved itself
taken_apart_faults : run (taken_apart ∷ []) [] (record { function = record { place = 0; index = 1 }; arguments = [] }) 100 ≡ Faulted TypeFault 16
unfolding computed
taken_apart_faults = refl
