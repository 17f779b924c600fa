-- Worked runs of single functions, by computation.
use Rattle.mv_machine.proofs.Common.{[], ℕ, ◌∷◌, ◌≡◌, List, false, refl, true, Module, Instruction, Abort, Add, BrTrue, Branch, CastU8, CopyLoc, Eq, Exists, FreezeRef, ImmBorrowField}
use Rattle.mv_machine.proofs.Common.{ImmBorrowGlobal, ImmBorrowLoc, LdU128, LdU64, LdU8, Mod, MoveFrom, MoveLoc, MoveTo, MutBorrowField, MutBorrowGlobal, MutBorrowLoc, Pack, Pop, ReadRef}
use Rattle.mv_machine.proofs.Common.{Ret, Shl, StLoc, Sub, Unpack, WriteRef, Public, Address, Boolean, Number, Signer, Token, Plain, OfLeaf, OfStruct, U64, Aborted, Faulted, Returned, RunOutcome}
use Rattle.mv_machine.proofs.Common.{run, Storage, DanglingFault, Leaf, More, NoMore, Ref, Stored, Struct, Value, AlreadyThere, Arith, Code, Missing}
use Rattle.mv_move_types.specs.declared.token.Token.TheVariants.{Reference as ReferenceTo, MutableReference as MutableReferenceTo}
use Rattle.mv_machine.specs.Typing.{TypeFault, LostFault, FrozenFault}
use Rattle.mv_machine.proofs.Computed.{computed}

abbrev pub u64 : Token
u64 = Plain (OfLeaf (Number U64))

-- a module of one function f with these parameters, further locals and code, beside a struct of two numbers with drop and a coin with key
abbrev pub one_function : List Token → List Token → List Instruction → Module
one_function parameters others code = record {
  version = 5;
  module_handles = record { address = 0; name = 0 } ∷ [];
  struct_handles = record { «module» = 0; name = 1; abilities = record { copy = false; drop = true; store = false; key = false } } ∷ record { «module» = 0; name = 5; abilities = record { copy = false; drop = false; store = true; key = true } } ∷ [];
  function_handles = record { «module» = 0; name = 2; parameters = 0; results = 2 } ∷ [];
  signatures = parameters ∷ others ∷ [] ∷ [];
  constants = [];
  identifiers = (77 ∷ []) ∷ (80 ∷ []) ∷ (102 ∷ []) ∷ (97 ∷ []) ∷ (98 ∷ []) ∷ (67 ∷ []) ∷ [];
  addresses = 1 ∷ [];
  structs = record { handle = 0; fields = record { name = 3; token = u64 } ∷ record { name = 4; token = u64 } ∷ [] } ∷ record { handle = 1; fields = record { name = 3; token = u64 } ∷ [] } ∷ [];
  functions = record { handle = 0; visibility = Public; is_entry = true; acquires = []; locals = 1; code = code } ∷ [];
  field_handles = record { definition = 0; position = 0 } ∷ record { definition = 0; position = 1 } ∷ record { definition = 1; position = 0 } ∷ [];
  own = 0;
}

-- the outcome of f with these arguments, in at most so many steps
abbrev pub of_f : Module → List Value → ℕ → RunOutcome
of_f m arguments budget = run (m ∷ []) [] (record { function = record { place = 0; index = 0 }; arguments = arguments }) budget

abbrev pub two_numbers : Token
two_numbers = Plain (OfStruct 0)

-- a loop that writes through a reference to a local
abbrev pub looping : Module
looping = one_function (u64 ∷ []) (u64 ∷ MutableReferenceTo (OfLeaf (Number U64)) ∷ []) (LdU64 0 ∷ StLoc 1 ∷ MutBorrowLoc 1 ∷ StLoc 2 ∷ CopyLoc 0 ∷ LdU64 0 ∷ Eq ∷ BrTrue 16 ∷ CopyLoc 0 ∷ LdU64 1 ∷ Sub ∷ StLoc 0 ∷ CopyLoc 0 ∷ CopyLoc 2 ∷ WriteRef ∷ Branch 4 ∷ Ret ∷ [])

looping_2 : of_f looping (Leaf (Number U64) 2 ∷ []) 100 ≡ Returned 33 [] []
unfolding computed
looping_2 = refl

looping_0 : of_f looping (Leaf (Number U64) 0 ∷ []) 100 ≡ Returned 9 [] []
unfolding computed
looping_0 = refl

-- a write while an immutable reference to the same place is live
frozen_write : of_f (one_function (u64 ∷ []) (MutableReferenceTo (OfLeaf (Number U64)) ∷ [])
    (MutBorrowLoc 0 ∷ StLoc 1 ∷ CopyLoc 1 ∷ FreezeRef ∷ LdU64 9 ∷ MoveLoc 1 ∷ WriteRef ∷ Pop ∷ Ret ∷ [])) (Leaf (Number U64) 1 ∷ []) 100
    ≡ Faulted FrozenFault 7
unfolding computed
frozen_write = refl

-- the same after that reference is gone
thawed_write : of_f (one_function (u64 ∷ []) (MutableReferenceTo (OfLeaf (Number U64)) ∷ [])
    (MutBorrowLoc 0 ∷ StLoc 1 ∷ CopyLoc 1 ∷ FreezeRef ∷ Pop ∷ LdU64 9 ∷ MoveLoc 1 ∷ WriteRef ∷ Ret ∷ [])) (Leaf (Number U64) 1 ∷ []) 100
    ≡ Returned 9 [] []
unfolding computed
thawed_write = refl

-- a write to field b, or to field a, while field a is borrowed
abbrev pub beside : Instruction → Module
beside borrow = one_function [] (two_numbers ∷ MutableReferenceTo (OfStruct 0) ∷ []) (LdU64 1 ∷ LdU64 2 ∷ Pack 0 ∷ StLoc 0 ∷ MutBorrowLoc 0 ∷ StLoc 1 ∷ CopyLoc 1 ∷ ImmBorrowField 0 ∷ LdU64 3 ∷ MoveLoc 1 ∷ borrow ∷ WriteRef ∷ ReadRef ∷ Pop ∷ Ret ∷ [])

abbrev pub steps_of : RunOutcome → ℕ
steps_of (Returned n storage events) = n
steps_of _ = 0

other_field : steps_of (of_f (beside (MutBorrowField 1)) [] 100) ≡ 15
unfolding computed
other_field = refl

same_field : of_f (beside (MutBorrowField 0)) [] 100 ≡ Faulted FrozenFault 12
unfolding computed
same_field = refl

-- a result that refers to the frame that ends
frozen_end : of_f (record (one_function (u64 ∷ []) [] (ImmBorrowLoc 0 ∷ Ret ∷ [])) { signatures = (u64 ∷ []) ∷ [] ∷ (ReferenceTo (OfLeaf (Number U64)) ∷ []) ∷ [] }) (Leaf (Number U64) 1 ∷ []) 100
    ≡ Faulted FrozenFault 2
unfolding computed
frozen_end = refl

-- a stored value is taken while an immutable reference to it is live
abbrev taken_while_borrowed : Module
taken_while_borrowed = one_function (Plain (OfLeaf Address) ∷ []) [] (CopyLoc 0 ∷ ImmBorrowGlobal 1 ∷ MoveLoc 0 ∷ MoveFrom 1 ∷ Ret ∷ [])

abbrev coin_at_1 : Storage
coin_at_1 = record { key = record { address = 1; place = 0; index = 1 }; value = Struct (record { home = record { address = 1; name = 77 ∷ [] }; name = 67 ∷ [] }) (More (Leaf (Number U64) 7) NoMore) } ∷ []

frozen_removal : run (taken_while_borrowed ∷ []) coin_at_1 (record { function = record { place = 0; index = 0 }; arguments = Leaf Address 1 ∷ [] }) 100 ≡ Faulted FrozenFault 4
unfolding computed
frozen_removal = refl

-- the number is at another address
missing_there : run (taken_while_borrowed ∷ []) coin_at_1 (record { function = record { place = 0; index = 0 }; arguments = Leaf Address 2 ∷ [] }) 100 ≡ Aborted Missing 0 2
unfolding computed
missing_there = refl

-- an immutable reference to a coin at address 1
abbrev coin_lent : Value
coin_lent = Ref (record { is_mutable = false; place = record { root = Stored (record { address = 1; place = 0; index = 1 }); path = [] } })

-- a coin is stored at the signer's address while that reference is live
abbrev stored_while_lent : Storage → ℕ → RunOutcome
stored_while_lent storage signer =
    let code : List Instruction = ImmBorrowLoc 1 ∷ LdU64 7 ∷ Pack 1 ∷ MoveTo 1 ∷ Ret ∷ [] in
    run (one_function (ReferenceTo (OfStruct 1) ∷ Plain (OfLeaf Signer) ∷ []) [] code ∷ []) storage (record { function = record { place = 0; index = 0 }; arguments = coin_lent ∷ Leaf Signer signer ∷ [] }) 100

-- nothing is stored where the reference leads: the write would put a value under it
frozen_put : stored_while_lent [] 1 ≡ Faulted FrozenFault 4
unfolding computed
frozen_put = refl

-- the reference leads to a coin, so nothing is written
put_where_one_is : stored_while_lent coin_at_1 1 ≡ Aborted AlreadyThere 0 4
unfolding computed
put_where_one_is = refl

-- the reference leads elsewhere
put_elsewhere : steps_of (stored_while_lent [] 2) ≡ 5
unfolding computed
put_elsewhere = refl

-- a reference is frozen whose local was moved
dangling_freeze : of_f (one_function (u64 ∷ []) [] (MutBorrowLoc 0 ∷ MoveLoc 0 ∷ Pop ∷ FreezeRef ∷ Pop ∷ Ret ∷ [])) (Leaf (Number U64) 1 ∷ []) 100 ≡ Faulted DanglingFault 4
unfolding computed
dangling_freeze = refl

-- a reference is frozen whose stored value was taken
abbrev frozen_when_taken : Module
frozen_when_taken = one_function (Plain (OfLeaf Address) ∷ []) [] (CopyLoc 0 ∷ MutBorrowGlobal 1 ∷ MoveLoc 0 ∷ MoveFrom 1 ∷ Unpack 1 ∷ Pop ∷ FreezeRef ∷ Pop ∷ Ret ∷ [])

taken_freeze : run (frozen_when_taken ∷ []) coin_at_1 (record { function = record { place = 0; index = 0 }; arguments = Leaf Address 1 ∷ [] }) 100 ≡ Faulted DanglingFault 7
unfolding computed
taken_freeze = refl

-- whether a value is stored
abbrev asked : ℕ → RunOutcome
asked address = run (one_function (Plain (OfLeaf Address) ∷ []) [] (MoveLoc 0 ∷ Exists 1 ∷ BrTrue 5 ∷ LdU64 0 ∷ Abort ∷ LdU64 1 ∷ Abort ∷ []) ∷ []) coin_at_1 (record { function = record { place = 0; index = 0 }; arguments = Leaf Address address ∷ [] }) 100

stored_there : asked 1 ≡ Aborted Code 1 5
unfolding computed
stored_there = refl

not_stored_there : asked 2 ≡ Aborted Code 0 5
unfolding computed
not_stored_there = refl

-- a moved local is read
moved_read : of_f (one_function (u64 ∷ []) [] (MoveLoc 0 ∷ Pop ∷ CopyLoc 0 ∷ Pop ∷ Ret ∷ [])) (Leaf (Number U64) 1 ∷ []) 100 ≡ Faulted LostFault 3
unfolding computed
moved_read = refl

-- arithmetic that leaves its range
sum_too_large : of_f (one_function [] [] (LdU128 340282366920938463463374607431768211455 ∷ LdU128 1 ∷ Add ∷ Pop ∷ Ret ∷ [])) [] 100 ≡ Aborted Arith 0 3
unfolding computed
sum_too_large = refl

shift_too_far : of_f (one_function [] [] (LdU128 3 ∷ LdU8 128 ∷ Shl ∷ Pop ∷ Ret ∷ [])) [] 100 ≡ Aborted Arith 0 3
unfolding computed
shift_too_far = refl

cast_too_large : of_f (one_function [] [] (LdU64 256 ∷ CastU8 ∷ Pop ∷ Ret ∷ [])) [] 100 ≡ Aborted Arith 0 2
unfolding computed
cast_too_large = refl

no_divisor : of_f (one_function [] [] (LdU64 7 ∷ LdU64 0 ∷ Mod ∷ Pop ∷ Ret ∷ [])) [] 100 ≡ Aborted Arith 0 3
unfolding computed
no_divisor = refl

own_code : of_f (one_function [] [] (LdU64 42 ∷ Abort ∷ [])) [] 100 ≡ Aborted Code 42 2
unfolding computed
own_code = refl

top_bit : of_f (one_function [] [] (LdU128 3 ∷ LdU8 127 ∷ Shl ∷ LdU128 170141183460469231731687303715884105728 ∷ Eq ∷ BrTrue 8 ∷ LdU64 6 ∷ Abort ∷ Ret ∷ [])) [] 100 ≡ Returned 7 [] []
unfolding computed
top_bit = refl

-- a local that holds a value of another type is neither copied, moved nor borrowed: the call gives a bool where a number is declared
abbrev pub of_a_bool : Instruction → RunOutcome
of_a_bool i = of_f (one_function (u64 ∷ []) [] (i ∷ Pop ∷ Ret ∷ [])) (Leaf Boolean 1 ∷ []) 100

copied_as_another : of_a_bool (CopyLoc 0) ≡ Faulted TypeFault 1
unfolding computed
copied_as_another = refl

moved_as_another : of_a_bool (MoveLoc 0) ≡ Faulted TypeFault 1
unfolding computed
moved_as_another = refl

lent_as_another : of_a_bool (MutBorrowLoc 0) ≡ Faulted TypeFault 1
unfolding computed
lent_as_another = refl

lent_for_reading_as_another : of_a_bool (ImmBorrowLoc 0) ≡ Faulted TypeFault 1
unfolding computed
lent_for_reading_as_another = refl

-- a reference to a local that was moved has no tag, and so is of no type: on the stack, where it is popped, and in a local
dangling_pop : of_f (one_function (u64 ∷ []) [] (MutBorrowLoc 0 ∷ MoveLoc 0 ∷ Pop ∷ Pop ∷ Ret ∷ [])) (Leaf (Number U64) 1 ∷ []) 100 ≡ Faulted TypeFault 4
unfolding computed
dangling_pop = refl

abbrev pub of_a_dangling : Instruction → RunOutcome
of_a_dangling i = of_f (one_function (u64 ∷ []) (MutableReferenceTo (OfLeaf (Number U64)) ∷ []) (MutBorrowLoc 0 ∷ StLoc 1 ∷ MoveLoc 0 ∷ Pop ∷ i ∷ Pop ∷ Ret ∷ [])) (Leaf (Number U64) 1 ∷ []) 100

dangling_copy : of_a_dangling (CopyLoc 1) ≡ Faulted TypeFault 5
unfolding computed
dangling_copy = refl

dangling_move : of_a_dangling (MoveLoc 1) ≡ Faulted TypeFault 5
unfolding computed
dangling_move = refl
