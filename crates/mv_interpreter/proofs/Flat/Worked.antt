-- Worked runs of linked code, by computation.
use Rattle.mv_interpreter.proofs.Flat.Common.{flat_map, Module, Call, Ret, Pop, LdU64, CopyLoc, MoveLoc, StLoc, MutBorrowLoc, MutBorrowField, Pack, Unpack, ReadRef, WriteRef, Add, Abort}
use Rattle.mv_interpreter.proofs.Flat.Common.{Number, Plain, OfLeaf, OfStruct, U64, flat, FunctionCall, Aborted, AlreadyThere, Code, program_of, Push, Enter, Leave, PutStored, Discard}
use Rattle.mv_interpreter.proofs.Flat.Common.{Load, Store, BorrowLocal, GiveUp, BorrowInside, Read, Write, Sum, Tally, FlatReturned, FlatAborted, flat_entry}
use Rattle.std.specs.Prelude.{◌≡◌, refl, ℕ, List, true, false, [], ◌∷◌, map}
use Rattle.mv_move_types.specs.{declared.tables.Visibility.TheVariants.Public, declared.tables.Visibility.TheVariants.Private, declared.token.Token.TheVariants.MutableReference}
use Rattle.mv_machine.specs.{Run.run, Run.turns, StepLocals.pop, StepLocals.copy_local, StepLocals.store_local, StepStructs.unpack, StepGlobals.exists, StepGlobals.borrow_global}
use Rattle.mv_machine.specs.{StepGlobals.move_from}
use Rattle.mv_machine.specs.StepNumbers.{binary, comparison, shift, cast, logic, negation, constant, equality}
use Rattle.mv_machine.specs.Step.{held, move_local, borrow_local, own_struct, pack, keyed_struct, move_to, signature_tags, return_results, rule, step}
use Rattle.mv_machine.specs.StepReferences.{own_field, borrow_field, read_reference, write_reference, freeze}
use Rattle.mv_machine.specs.StepControl.{said_by, found_by, callee, call, branch_if, abort}
use Rattle.mv_machine.proofs.Coin.{coin_module, mint, one_coin}
use Rattle.mv_type_rules.specs.TypeRules.{types_after}
use Rattle.mv_lowering.specs.Linked.{linked}
use Rattle.mv_interpreter.specs.{Flat.FlatStep.apply, Flat.FlatRun.flat_turns, Flat.FlatRun.flat_run}

-- all that a flat run computes with
unfoldable computes : ℕ
unfolding binary comparison shift cast logic negation constant pop equality held copy_local move_local store_local borrow_local own_struct pack unpack own_field borrow_field read_reference write_reference freeze keyed_struct exists borrow_global move_from move_to signature_tags said_by found_by callee call return_results branch_if abort rule step turns run types_after linked apply flat_turns flat_run
computes = 0

-- where nothing lies above the locals, they are zeros
abbrev nothing_above : ℕ → List ℕ
nothing_above n = []

coin_linked : program_of (coin_module ∷ []) ≡ ((BorrowLocal 0 ∷ Load 1 1 ∷ Tally true (record { place = 0; index = 0 }) ∷ PutStored (record { place = 0; index = 0 }) 1 ∷ Leave 0 ∷ []) ∷ []) ∷ []
unfolding computes
coin_linked = refl

flat_mint : flat_run (coin_module ∷ []) (program_of (coin_module ∷ [])) nothing_above [] mint.function (flat_map flat mint.arguments) 100 ≡ FlatReturned 5
    (map flat_entry one_coin) (record { is_pack = true; definition = record { place = 0; index = 0 } } ∷ [])
unfolding computes
flat_mint = refl

flat_mint_twice : flat_run (coin_module ∷ []) (program_of (coin_module ∷ [])) nothing_above (map flat_entry one_coin) mint.function (flat_map flat mint.arguments) 100 ≡ FlatAborted AlreadyThere 0 4
unfolding computes
flat_mint_twice = refl

-- a module of pairs: one function adds 5 to the second number of a pair in its caller's local, through a reference
abbrev pairs : Module
pairs = record {
  version = 5;
  module_handles = record { address = 0; name = 0 } ∷ [];
  struct_handles = record { «module» = 0; name = 1; abilities = record { copy = true; drop = true; store = true; key = false } } ∷ [];
  function_handles = record { «module» = 0; name = 2; parameters = 0; results = 0 } ∷ record { «module» = 0; name = 3; parameters = 1; results = 0 } ∷ [];
  signatures = [] ∷ (MutableReference (OfStruct 0) ∷ []) ∷ (Plain (OfLeaf (Number U64)) ∷ Plain (OfStruct 0) ∷ []) ∷ (MutableReference (OfLeaf (Number U64)) ∷ []) ∷ [];
  constants = [];
  identifiers = (77 ∷ []) ∷ (80 ∷ []) ∷ (102 ∷ []) ∷ (103 ∷ []) ∷ [];
  addresses = 1 ∷ [];
  structs = record { handle = 0; fields = record { name = 2; token = Plain (OfLeaf (Number U64)) } ∷ record { name = 3; token = Plain (OfLeaf (Number U64)) } ∷ [] } ∷ [];
  functions =
      record { handle = 0; visibility = Public; is_entry = true; acquires = []; locals = 2; code = LdU64 3 ∷ LdU64 4 ∷ Pack 0 ∷ StLoc 1 ∷ MutBorrowLoc 1 ∷ Call 1 ∷ MoveLoc 1 ∷ Unpack 0 ∷ StLoc 0 ∷ Pop ∷ MoveLoc 0 ∷ Abort ∷ [] }
      ∷ record { handle = 1; visibility = Private; is_entry = false; acquires = []; locals = 3; code = MoveLoc 0 ∷ MutBorrowField 0 ∷ StLoc 1 ∷ CopyLoc 1 ∷ ReadRef ∷ LdU64 5 ∷ Add ∷ MoveLoc 1 ∷ WriteRef ∷ Ret ∷ [] } ∷ [];
  field_handles = record { definition = 0; position = 1 } ∷ [];
  own = 0;
}

abbrev adds : FunctionCall
adds = record { function = record { place = 0; index = 0 }; arguments = [] }

pairs_aborts : run (pairs ∷ []) [] adds 100 ≡ Aborted Code 9 22
unfolding computes
pairs_aborts = refl

flat_pairs_aborts : flat_run (pairs ∷ []) (program_of (pairs ∷ [])) nothing_above [] adds.function (flat_map flat adds.arguments) 100 ≡ FlatAborted Code 9 22
unfolding computes
flat_pairs_aborts = refl

pairs_linked : program_of (pairs ∷ []) ≡ ((Push 3 ∷ Push 4 ∷ Tally true (record { place = 0; index = 0 }) ∷ Store 1 2 ∷ BorrowLocal 1 ∷ Enter
    (record { place = 0; index = 1 }) 2 2 ∷ Load 1 2 ∷ Tally false (record { place = 0; index = 0 }) ∷ Store 0 1 ∷ Discard 1 ∷ Load 0 1 ∷ GiveUp ∷ [])
    ∷ (Load 0 2 ∷ BorrowInside 1 ∷ Store 2 2 ∷ Load 2 2 ∷ Read 1 ∷ Push 5 ∷ Sum U64 ∷ Load 2 2 ∷ Write 1 ∷ Leave 0 ∷ []) ∷ []) ∷ []
unfolding computes
pairs_linked = refl
