-- Worked rows of the operators, by computation: code that leaves a number, with which it is given up then.
use Rattle.mv_machine.proofs.Common.{[], ◌++◌, ◌∷◌, ◌≡◌, List, refl, Instruction, Abort, Add, And, BitAnd, BitOr, BrFalse, BrTrue, CastU128, CastU16, CastU32, CastU64, CastU8, Div, Eq, Ge}
use Rattle.mv_machine.proofs.Common.{Gt, LdConst, LdFalse, LdTrue, LdU128, LdU16, LdU32, LdU64, LdU8, Le, Lt, Mod, Mul, Neq, Nop, Not, Or, Pop, Shl, Shr, Sub, Xor, Boolean, Number, Plain}
use Rattle.mv_machine.proofs.Common.{OfLeaf, U64, Aborted, Faulted, RunOutcome, TypeFault, Arith, Code}
use Rattle.mv_machine.proofs.Rows.{one_function, of_f}
use Rattle.mv_machine.proofs.Computed.{computed}

-- code that ends with a u64, which the run is given up with
abbrev number : List Instruction → RunOutcome
number code = of_f (one_function [] [] (code ++ Abort ∷ [])) [] 100

-- code of three instructions that ends with a bool: the run is given up with 1 where it is true, with 0 where not
abbrev truth_of : List Instruction → RunOutcome
truth_of code = of_f (one_function [] [] (code ++ BrTrue 6 ∷ LdU64 0 ∷ Abort ∷ LdU64 1 ∷ Abort ∷ [])) [] 100

sum : number (LdU64 7 ∷ LdU64 3 ∷ Add ∷ []) ≡ Aborted Code 10 4
unfolding computed
sum = refl

-- the left operand is the lower one
difference : number (LdU64 7 ∷ LdU64 3 ∷ Sub ∷ []) ≡ Aborted Code 4 4
unfolding computed
difference = refl

negative : number (LdU64 3 ∷ LdU64 7 ∷ Sub ∷ []) ≡ Aborted Arith 0 3
unfolding computed
negative = refl

product : number (LdU64 7 ∷ LdU64 3 ∷ Mul ∷ []) ≡ Aborted Code 21 4
unfolding computed
product = refl

remainder : number (LdU64 7 ∷ LdU64 3 ∷ Mod ∷ []) ≡ Aborted Code 1 4
unfolding computed
remainder = refl

quotient : number (LdU64 7 ∷ LdU64 3 ∷ Div ∷ []) ≡ Aborted Code 2 4
unfolding computed
quotient = refl

no_quotient : number (LdU64 7 ∷ LdU64 0 ∷ Div ∷ []) ≡ Aborted Arith 0 3
unfolding computed
no_quotient = refl

either_bit : number (LdU64 12 ∷ LdU64 10 ∷ BitOr ∷ []) ≡ Aborted Code 14 4
unfolding computed
either_bit = refl

both_bits : number (LdU64 12 ∷ LdU64 10 ∷ BitAnd ∷ []) ≡ Aborted Code 8 4
unfolding computed
both_bits = refl

one_bit : number (LdU64 12 ∷ LdU64 10 ∷ Xor ∷ []) ≡ Aborted Code 6 4
unfolding computed
one_bit = refl

shifted_out : number (LdU64 9223372036854775809 ∷ LdU8 1 ∷ Shl ∷ []) ≡ Aborted Code 2 4
unfolding computed
shifted_out = refl

halved : number (LdU64 13 ∷ LdU8 2 ∷ Shr ∷ []) ≡ Aborted Code 3 4
unfolding computed
halved = refl

shifted_too_far : number (LdU64 13 ∷ LdU8 64 ∷ Shr ∷ []) ≡ Aborted Arith 0 3
unfolding computed
shifted_too_far = refl

shift_by_u64 : number (LdU64 13 ∷ LdU64 1 ∷ Shr ∷ []) ≡ Faulted TypeFault 3
unfolding computed
shift_by_u64 = refl

other_widths : number (LdU64 1 ∷ LdU8 1 ∷ Add ∷ []) ≡ Faulted TypeFault 3
unfolding computed
other_widths = refl

-- the last number of each width fits, and the next one does not
through_u8 : number (LdU64 255 ∷ CastU8 ∷ CastU64 ∷ []) ≡ Aborted Code 255 4
unfolding computed
through_u8 = refl

through_u16 : number (LdU64 65535 ∷ CastU16 ∷ CastU64 ∷ []) ≡ Aborted Code 65535 4
unfolding computed
through_u16 = refl

past_u16 : number (LdU64 65536 ∷ CastU16 ∷ CastU64 ∷ []) ≡ Aborted Arith 0 2
unfolding computed
past_u16 = refl

through_u32 : number (LdU64 4294967295 ∷ CastU32 ∷ CastU64 ∷ []) ≡ Aborted Code 4294967295 4
unfolding computed
through_u32 = refl

past_u32 : number (LdU64 4294967296 ∷ CastU32 ∷ CastU64 ∷ []) ≡ Aborted Arith 0 2
unfolding computed
past_u32 = refl

through_u128 : number (LdU64 18446744073709551615 ∷ CastU128 ∷ CastU64 ∷ []) ≡ Aborted Code 18446744073709551615 4
unfolding computed
through_u128 = refl

past_u64 : number (LdU128 18446744073709551616 ∷ CastU64 ∷ []) ≡ Aborted Arith 0 2
unfolding computed
past_u64 = refl

loaded_u16 : number (LdU16 300 ∷ CastU64 ∷ []) ≡ Aborted Code 300 3
unfolding computed
loaded_u16 = refl

loaded_u32 : number (LdU32 70000 ∷ CastU64 ∷ []) ≡ Aborted Code 70000 3
unfolding computed
loaded_u32 = refl

not_a_code : number (LdU32 7 ∷ []) ≡ Faulted TypeFault 2
unfolding computed
not_a_code = refl

either : truth_of (LdFalse ∷ LdTrue ∷ Or ∷ []) ≡ Aborted Code 1 6
unfolding computed
either = refl

both : truth_of (LdFalse ∷ LdTrue ∷ And ∷ []) ≡ Aborted Code 0 6
unfolding computed
both = refl

opposite : truth_of (Nop ∷ LdFalse ∷ Not ∷ []) ≡ Aborted Code 1 6
unfolding computed
opposite = refl

same : truth_of (LdU64 7 ∷ LdU64 7 ∷ Eq ∷ []) ≡ Aborted Code 1 6
unfolding computed
same = refl

different : truth_of (LdU64 7 ∷ LdU64 7 ∷ Neq ∷ []) ≡ Aborted Code 0 6
unfolding computed
different = refl

other_types : truth_of (LdU64 7 ∷ LdU8 7 ∷ Eq ∷ []) ≡ Faulted TypeFault 3
unfolding computed
other_types = refl

less : truth_of (LdU64 3 ∷ LdU64 7 ∷ Lt ∷ []) ≡ Aborted Code 1 6
unfolding computed
less = refl

greater : truth_of (LdU64 3 ∷ LdU64 7 ∷ Gt ∷ []) ≡ Aborted Code 0 6
unfolding computed
greater = refl

at_most : truth_of (LdU64 7 ∷ LdU64 7 ∷ Le ∷ []) ≡ Aborted Code 1 6
unfolding computed
at_most = refl

at_least : truth_of (LdU64 3 ∷ LdU64 7 ∷ Ge ∷ []) ≡ Aborted Code 0 6
unfolding computed
at_least = refl

branched : number (LdFalse ∷ BrFalse 3 ∷ LdU64 9 ∷ LdU64 5 ∷ []) ≡ Aborted Code 5 4
unfolding computed
branched = refl

-- a constant is of its type, and a bool's is 0 or 1
abbrev with_constants : List Instruction → RunOutcome
with_constants code = of_f (record (one_function [] [] code) {
  constants = record { token = Plain (OfLeaf (Number U64)); bytes = 1 ∷ 2 ∷ 0 ∷ 0 ∷ 0 ∷ 0 ∷ 0 ∷ 0 ∷ [] } ∷ record { token = Plain (OfLeaf Boolean); bytes = 2 ∷ [] } ∷ [];
}) [] 100

constant_number : with_constants (LdConst 0 ∷ Abort ∷ []) ≡ Aborted Code 513 2
unfolding computed
constant_number = refl

no_bool : with_constants (LdConst 1 ∷ Pop ∷ LdU64 0 ∷ Abort ∷ []) ≡ Faulted TypeFault 1
unfolding computed
no_bool = refl
