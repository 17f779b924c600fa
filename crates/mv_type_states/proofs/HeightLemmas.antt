-- A type rule changes the height of the stack by the instruction's effect.
use Rattle.mv_type_states.proofs.Common.{[], ℕ, ◌++◌, ◌+◌, ◌∷◌, ◌≡◌, ◌≤◌, List, Some, ap, arith, drop, length, length-append, length-drop, map, refl, reverse}
use Rattle.mv_type_states.proofs.Common.{slice_get, take, length-map, length-reverse, length-take, same_Some, FunctionDefinition, Module, local_type, ◌>>=◌, same_tokens}
use Rattle.mv_type_states.proofs.Common.{same_value_type, Instruction, Field, FunctionHandle, Signer, Token, MutableReference, Plain, Reference, ValueType, OfLeaf, OfStruct, U64, U8}
use Rattle.mv_type_states.proofs.Common.{StackEffect, effect_of, Types, of_return, taken, takes_gives, types_after}
use Rattle.mv_move_types.specs.declared.token.Width.{Width}
use Rattle.mv_move_types.specs.declared.instruction.Instruction.TheVariants.{Pop, Ret, BrTrue, BrFalse, Branch, LdU64, LdConst, LdTrue, LdFalse, CopyLoc, MoveLoc, StLoc, MutBorrowLoc}
use Rattle.mv_move_types.specs.declared.instruction.Instruction.TheVariants.{ImmBorrowLoc, MutBorrowField, ImmBorrowField, Call, Pack, Unpack, ReadRef, WriteRef, Or, And, Not, Eq, Neq}
use Rattle.mv_move_types.specs.declared.instruction.Instruction.TheVariants.{Abort, Nop, Exists, MutBorrowGlobal, ImmBorrowGlobal, MoveFrom, MoveTo, FreezeRef, Shl, Shr, LdU8, LdU128}
use Rattle.mv_move_types.specs.declared.instruction.Instruction.TheVariants.{CastU8, CastU64, CastU128, LdU16, LdU32, CastU16, CastU32}
use Rattle.mv_move_types.specs.Module.{StructDefinition}
use Rattle.mv_abilities.specs.Abilities.{value_type_abilities, token_abilities}
use Rattle.mv_stack_use.specs.Heights.{effect, return_effect, call_effect, pack_effect, unpack_effect}
use Rattle.mv_type_rules.specs.TypeRules.{top_type, boolean, number, address, width_of, plain_of, target_of, mutable_target_of, top_width, of_two_numbers, of_shift, of_cast, of_equality}
use Rattle.mv_type_rules.specs.TypeRules.{of_pop, of_copy, of_borrow_local, keyed_type, field_types, of_mutable_field, of_immutable_field, of_call, of_pack, of_unpack, of_read, of_write}
use Rattle.mv_type_rules.specs.TypeRules.{of_freeze, of_constant, of_global, of_move_to}
use Rattle.mv_type_rules.proofs.Steps.{bind_some, provided_true, top_some}
use Rattle.mv_bound_rules.proofs.Tokens.{lists_equal}

-- so many are taken, and so many given
abbrev pub Changes : ℕ → ℕ → Types → Types → Type 0
Changes takes gives s t = (takes ≤ length s) × (length t + takes ≡ length s + gives)

-- the effect of an instruction is what its rule does to the height
pub record HasEffect (m : Module) (d : FunctionDefinition) (i : Instruction) (s t : Types) : Type 0 where
  pub effect : StackEffect
  pub is_effect : effect_of m d i ≡ Some effect
  pub changes : Changes effect.takes effect.gives s t

pushed : (x : Token) (s t : Types) → Some (x ∷ s) ≡ Some t → Changes 0 1 s t
pushed x s t e = let same = ap length (same_Some (x ∷ s) t e) in (omega arith, omega (arith, same))

unchanged : (s t : Types) → Some s ≡ Some t → Changes 0 0 s t
unchanged s t e = let same = ap length (same_Some s t e) in (omega arith, omega (arith, same))

-- one is taken off and another put in its place
replaced : (s : Types) (top : Token × Types) (x : Token) (t : Types) → top_type s ≡ Some top → Some (x ∷ top.1) ≡ Some t → Changes 1 1 s t
replaced s top x t there e =
    let old = ap length (top_some s top there) in
    let new = ap length (same_Some (x ∷ top.1) t e) in (omega (arith, old), omega (arith, old, new))

taken_changes : (ws : List Token) (s t : Types) → taken ws s ≡ Some t → Changes (length ws) 0 s t
taken_changes ws s t e =
    let p = provided_true (same_tokens (take (length ws) s) (reverse ws)) (drop (length ws) s) t e in
    let front = ap length (lists_equal (take (length ws) s) (reverse ws) p.0) in
    let enough : length ws ≤ length s = omega (arith, front, length-take (length ws) s, length-reverse ws) in
    (enough, omega (arith, ap length p.1, length-drop (length ws) s))

exchanged : (ws gs : List Token) (s t : Types) → takes_gives ws gs s ≡ Some t → Changes (length ws) (length gs) s t
exchanged ws gs s t e =
    let h = bind_some (taken ws s) _ t e in
    let p = taken_changes ws s h.0 h.1.0 in
    let same = ap length (same_Some (reverse gs ++ h.0) t h.1.1) in
    let sum = length-append (reverse gs) h.0 in (p.0, omega (arith, p.0, p.1, same, sum, length-reverse gs))

-- numbers
constant_changes : (m : Module) (i : ℕ) (s t : Types) → of_constant m i s ≡ Some t → Changes 0 1 s t
constant_changes m i s t e = let h = bind_some (slice_get m.constants i) _ t e in pushed h.0.token s t h.1.1

two_numbers_change : (given : Width → Token) (s t : Types) → of_two_numbers given s ≡ Some t → Changes 2 1 s t
two_numbers_change given s t e =
    let h = bind_some (top_width s) _ t e in exchanged (number h.0 ∷ number h.0 ∷ []) (given h.0 ∷ []) s t h.1.1

equality_changes : (m : Module) (s t : Types) → of_equality m s ≡ Some t → Changes 2 1 s t
equality_changes m s t e =
    let top = bind_some (top_type s) _ t e in
    let plain = bind_some (plain_of top.0.0) _ t top.1.1 in
    let a = bind_some (token_abilities m top.0.0) _ t plain.1.1 in
    let below = bind_some (taken (top.0.0 ∷ []) top.0.1) _ t a.1.1 in
    let last = provided_true a.0.drop (boolean ∷ below.0) t below.1.1 in
    let old = ap length (top_some s top.0 top.1.0) in
    let p = taken_changes (top.0.0 ∷ []) top.0.1 below.0 below.1.0 in
    let new = ap length last.1 in (omega (arith, old, p.0), omega (arith, old, p.0, p.1, new))

shift_changes : (s t : Types) → of_shift s ≡ Some t → Changes 2 1 s t
shift_changes s t e =
    let below = bind_some (taken (number U8 ∷ []) s) _ t e in
    let width = bind_some (top_width below.0) _ t below.1.1 in
    let top = bind_some (top_type below.0) _ width.0 width.1.0 in
    let p = taken_changes (number U8 ∷ []) s below.0 below.1.0 in
    let left = ap length (top_some below.0 top.0 top.1.0) in
    let same = ap length (same_Some below.0 t width.1.1) in (omega (arith, p.0, p.1, left), omega (arith, p.0, p.1, left, same))

cast_changes : (w : Width) (s t : Types) → of_cast w s ≡ Some t → Changes 1 1 s t
cast_changes w s t e =
    let top = bind_some (top_type s) _ t e in
    let old = bind_some (width_of top.0.0) _ t top.1.1 in replaced s top.0 (number w) t top.1.0 old.1.1

return_effect_is : (m : Module) (d : FunctionDefinition) (handle : FunctionHandle) (results : List Token) → slice_get m.function_handles d.handle ≡ Some handle
    → slice_get m.signatures handle.results ≡ Some results
    → return_effect m d ≡ effect (length results) 0
return_effect_is m d handle results named there = rw (named, there) refl

call_effect_is : (m : Module) (i : ℕ) (handle : FunctionHandle) (parameters results : List Token) → slice_get m.function_handles i ≡ Some handle
    → slice_get m.signatures handle.parameters ≡ Some parameters
    → slice_get m.signatures handle.results ≡ Some results → call_effect m i ≡ effect (length parameters) (length results)
call_effect_is m i handle parameters results named taking giving = rw (named, taking, giving) refl

pack_effect_is : (m : Module) (i : ℕ) (struct : StructDefinition) → slice_get m.structs i ≡ Some struct → pack_effect m i ≡ effect (length struct.fields) 1
pack_effect_is m i struct there = rw there refl

unpack_effect_is : (m : Module) (i : ℕ) (struct : StructDefinition) → slice_get m.structs i ≡ Some struct → unpack_effect m i ≡ effect 1 (length struct.fields)
unpack_effect_is m i struct there = rw there refl

-- control
pop_changes : (m : Module) (s t : Types) → of_pop m s ≡ Some t → Changes 1 0 s t
pop_changes m s t e =
    let top = bind_some (top_type s) _ t e in
    let a = bind_some (token_abilities m top.0.0) _ t top.1.1 in
    let last = provided_true a.0.drop top.0.1 t a.1.1 in
    let old = ap length (top_some s top.0 top.1.0) in
    let new = ap length last.1 in (omega (arith, old), omega (arith, old, new))

return_changes : (m : Module) (d : FunctionDefinition) (s t : Types) → of_return m d s ≡ Some t → HasEffect m d Ret s t
return_changes m d s t e =
    let handle = bind_some (slice_get m.function_handles d.handle) _ t e in
    let results = bind_some (slice_get m.signatures handle.0.results) _ t handle.1.1 in
    let p = provided_true (same_tokens s (reverse results.0)) [] t results.1.1 in
    let same = ap length (lists_equal s (reverse results.0) p.0) in
    let none = ap length p.1 in record {
      effect = record { takes = length results.0; gives = 0 };
      is_effect = return_effect_is m d handle.0 results.0 handle.1.0 results.1.0;
      changes = (omega (arith, same, length-reverse results.0), omega (arith, same, none, length-reverse results.0));
    }

call_changes : (m : Module) (d : FunctionDefinition) (i : ℕ) (s t : Types) → of_call m i s ≡ Some t → HasEffect m d (Call i) s t
call_changes m d i s t e =
    let handle = bind_some (slice_get m.function_handles i) _ t e in
    let parameters = bind_some (slice_get m.signatures handle.0.parameters) _ t handle.1.1 in
    let results = bind_some (slice_get m.signatures handle.0.results) _ t parameters.1.1 in record {
      effect = record { takes = length parameters.0; gives = length results.0 };
      is_effect = call_effect_is m i handle.0 parameters.0 results.0 handle.1.0 parameters.1.0 results.1.0;
      changes = exchanged parameters.0 results.0 s t results.1.1;
    }

-- locals
copy_changes : (m : Module) (d : FunctionDefinition) (l : ℕ) (s t : Types) → of_copy m d l s ≡ Some t → Changes 0 1 s t
copy_changes m d l s t e =
    let token = bind_some (local_type m d l) _ t e in
    let a = bind_some (token_abilities m token.0) _ t token.1.1 in
    let last = provided_true a.0.copy (token.0 ∷ s) t a.1.1 in pushed token.0 s t (ap (λ x. Some x) last.1)

move_changes : (m : Module) (d : FunctionDefinition) (l : ℕ) (s t : Types) → (local_type m d l >>= λ x. Some (x ∷ s)) ≡ Some t → Changes 0 1 s t
move_changes m d l s t e = let token = bind_some (local_type m d l) _ t e in pushed token.0 s t token.1.1

store_changes : (m : Module) (d : FunctionDefinition) (l : ℕ) (s t : Types) → (local_type m d l >>= λ x. taken (x ∷ []) s) ≡ Some t → Changes 1 0 s t
store_changes m d l s t e =
    let token = bind_some (local_type m d l) (λ x. taken (x ∷ []) s) t e in taken_changes (token.0 ∷ []) s t token.1.1

borrow_changes : (given : ValueType → Token) (m : Module) (d : FunctionDefinition) (l : ℕ) (s t : Types) → of_borrow_local given m d l s ≡ Some t → Changes 0 1 s t
borrow_changes given m d l s t e =
    let token = bind_some (local_type m d l) _ t e in
    let plain = bind_some (plain_of token.0) _ t token.1.1 in pushed (given plain.0) s t plain.1.1

-- structs
pack_changes : (m : Module) (d : FunctionDefinition) (i : ℕ) (s t : Types) → of_pack m i s ≡ Some t → HasEffect m d (Pack i) s t
pack_changes m d i s t e =
    let struct = bind_some (slice_get m.structs i) _ t e in
    let fields = map (λ (f : Field). f.token) struct.0.fields in
    let p = exchanged fields (Plain (OfStruct struct.0.handle) ∷ []) s t struct.1.1 in
    let count : length fields ≡ length struct.0.fields = rw length-map refl in record {
      effect = record { takes = length struct.0.fields; gives = 1 };
      is_effect = pack_effect_is m i struct.0 struct.1.0;
      changes = (omega (arith, count, p.0), omega (arith, count, p.1));
    }

unpack_changes : (m : Module) (d : FunctionDefinition) (i : ℕ) (s t : Types) → of_unpack m i s ≡ Some t → HasEffect m d (Unpack i) s t
unpack_changes m d i s t e =
    let struct = bind_some (slice_get m.structs i) _ t e in
    let fields = map (λ (f : Field). f.token) struct.0.fields in
    let p = exchanged (Plain (OfStruct struct.0.handle) ∷ []) fields s t struct.1.1 in
    let count : length fields ≡ length struct.0.fields = rw length-map refl in record {
      effect = record { takes = 1; gives = length struct.0.fields };
      is_effect = unpack_effect_is m i struct.0 struct.1.0;
      changes = (omega (arith, p.0), omega (arith, count, p.1));
    }

-- references
mutable_field_changes : (m : Module) (i : ℕ) (s t : Types) → of_mutable_field m i s ≡ Some t → Changes 1 1 s t
mutable_field_changes m i s t e =
    let types = bind_some (field_types m i) _ t e in
    exchanged (MutableReference types.0.0 ∷ []) (MutableReference types.0.1 ∷ []) s t types.1.1

immutable_field_changes : (m : Module) (i : ℕ) (s t : Types) → of_immutable_field m i s ≡ Some t → Changes 1 1 s t
immutable_field_changes m i s t e =
    let types = bind_some (field_types m i) _ t e in
    let top = bind_some (top_type s) _ t types.1.1 in
    let target = bind_some (target_of top.0.0) _ t top.1.1 in
    let last = provided_true (same_value_type target.0 types.0.0) (Reference types.0.1 ∷ top.0.1) t target.1.1 in
    replaced s top.0 (Reference types.0.1) t top.1.0 (ap (λ x. Some x) last.1)

read_changes : (m : Module) (s t : Types) → of_read m s ≡ Some t → Changes 1 1 s t
read_changes m s t e =
    let top = bind_some (top_type s) _ t e in
    let target = bind_some (target_of top.0.0) _ t top.1.1 in
    let a = bind_some (value_type_abilities m target.0) _ t target.1.1 in
    let last = provided_true a.0.copy (Plain target.0 ∷ top.0.1) t a.1.1 in
    replaced s top.0 (Plain target.0) t top.1.0 (ap (λ x. Some x) last.1)

write_changes : (m : Module) (s t : Types) → of_write m s ≡ Some t → Changes 2 0 s t
write_changes m s t e =
    let top = bind_some (top_type s) _ t e in
    let target = bind_some (mutable_target_of top.0.0) _ t top.1.1 in
    let a = bind_some (value_type_abilities m target.0) _ t target.1.1 in
    let below = bind_some (taken (Plain target.0 ∷ []) top.0.1) _ t a.1.1 in
    let last = provided_true a.0.drop below.0 t below.1.1 in
    let old = ap length (top_some s top.0 top.1.0) in
    let p = taken_changes (Plain target.0 ∷ []) top.0.1 below.0 below.1.0 in
    let new = ap length last.1 in (omega (arith, old, p.0), omega (arith, old, p.0, p.1, new))

freeze_changes : (s t : Types) → of_freeze s ≡ Some t → Changes 1 1 s t
freeze_changes s t e =
    let top = bind_some (top_type s) _ t e in
    let target = bind_some (mutable_target_of top.0.0) _ t top.1.1 in replaced s top.0 (Reference target.0) t top.1.0 target.1.1

-- globals
global_changes : (given : ValueType → Token) (m : Module) (i : ℕ) (s t : Types) → of_global given m i s ≡ Some t → Changes 1 1 s t
global_changes given m i s t e =
    let stored = bind_some (keyed_type m i) _ t e in exchanged (address ∷ []) (given stored.0 ∷ []) s t stored.1.1

move_to_changes : (m : Module) (i : ℕ) (s t : Types) → of_move_to m i s ≡ Some t → Changes 2 0 s t
move_to_changes m i s t e =
    let stored = bind_some (keyed_type m i) _ t e in
    exchanged (Reference (OfLeaf Signer) ∷ Plain stored.0 ∷ []) [] s t stored.1.1

has : (m : Module) (d : FunctionDefinition) (i : Instruction) (s t : Types) (takes gives : ℕ) → effect_of m d i ≡ effect takes gives → Changes takes gives s t → HasEffect m d i s t
has m d i s t takes gives is changes = record { effect = record { takes = takes; gives = gives }; is_effect = is; changes = changes }

pub has_effect : (m : Module) (d : FunctionDefinition) (i : Instruction) (s t : Types) → types_after m d i s ≡ Some t → HasEffect m d i s t
unfolding types_after
has_effect m d Pop s t e = has m d Pop s t 1 0 refl (pop_changes m s t e)
has_effect m d Ret s t e = return_changes m d s t e
has_effect m d (BrTrue x) s t e = has m d (BrTrue x) s t 1 0 refl (taken_changes (boolean ∷ []) s t e)
has_effect m d (BrFalse x) s t e = has m d (BrFalse x) s t 1 0 refl (taken_changes (boolean ∷ []) s t e)
has_effect m d (Branch x) s t e = has m d (Branch x) s t 0 0 refl (unchanged s t e)
has_effect m d (LdU64 n) s t e = has m d (LdU64 n) s t 0 1 refl (pushed _ s t e)
has_effect m d (LdConst x) s t e = has m d (LdConst x) s t 0 1 refl (constant_changes m x s t e)
has_effect m d LdTrue s t e = has m d LdTrue s t 0 1 refl (pushed _ s t e)
has_effect m d LdFalse s t e = has m d LdFalse s t 0 1 refl (pushed _ s t e)
has_effect m d (CopyLoc l) s t e = has m d (CopyLoc l) s t 0 1 refl (copy_changes m d l s t e)
has_effect m d (MoveLoc l) s t e = has m d (MoveLoc l) s t 0 1 refl (move_changes m d l s t e)
has_effect m d (StLoc l) s t e = has m d (StLoc l) s t 1 0 refl (store_changes m d l s t e)
has_effect m d (MutBorrowLoc l) s t e = has m d (MutBorrowLoc l) s t 0 1 refl (borrow_changes _ m d l s t e)
has_effect m d (ImmBorrowLoc l) s t e = has m d (ImmBorrowLoc l) s t 0 1 refl (borrow_changes _ m d l s t e)
has_effect m d (MutBorrowField x) s t e = has m d (MutBorrowField x) s t 1 1 refl (mutable_field_changes m x s t e)
has_effect m d (ImmBorrowField x) s t e = has m d (ImmBorrowField x) s t 1 1 refl (immutable_field_changes m x s t e)
has_effect m d (Call x) s t e = call_changes m d x s t e
has_effect m d (Pack x) s t e = pack_changes m d x s t e
has_effect m d (Unpack x) s t e = unpack_changes m d x s t e
has_effect m d ReadRef s t e = has m d ReadRef s t 1 1 refl (read_changes m s t e)
has_effect m d WriteRef s t e = has m d WriteRef s t 2 0 refl (write_changes m s t e)
has_effect m d Or s t e = has m d Or s t 2 1 refl (exchanged (boolean ∷ boolean ∷ []) (boolean ∷ []) s t e)
has_effect m d And s t e = has m d And s t 2 1 refl (exchanged (boolean ∷ boolean ∷ []) (boolean ∷ []) s t e)
has_effect m d Not s t e = has m d Not s t 1 1 refl (exchanged (boolean ∷ []) (boolean ∷ []) s t e)
has_effect m d Eq s t e = has m d Eq s t 2 1 refl (equality_changes m s t e)
has_effect m d Neq s t e = has m d Neq s t 2 1 refl (equality_changes m s t e)
has_effect m d Abort s t e = has m d Abort s t 1 0 refl (taken_changes (number U64 ∷ []) s t e)
has_effect m d Nop s t e = has m d Nop s t 0 0 refl (unchanged s t e)
has_effect m d (Exists x) s t e = has m d (Exists x) s t 1 1 refl (global_changes _ m x s t e)
has_effect m d (MutBorrowGlobal x) s t e = has m d (MutBorrowGlobal x) s t 1 1 refl (global_changes _ m x s t e)
has_effect m d (ImmBorrowGlobal x) s t e = has m d (ImmBorrowGlobal x) s t 1 1 refl (global_changes _ m x s t e)
has_effect m d (MoveFrom x) s t e = has m d (MoveFrom x) s t 1 1 refl (global_changes _ m x s t e)
has_effect m d (MoveTo x) s t e = has m d (MoveTo x) s t 2 0 refl (move_to_changes m x s t e)
has_effect m d FreezeRef s t e = has m d FreezeRef s t 1 1 refl (freeze_changes s t e)
has_effect m d Shl s t e = has m d Shl s t 2 1 refl (shift_changes s t e)
has_effect m d Shr s t e = has m d Shr s t 2 1 refl (shift_changes s t e)
has_effect m d (LdU8 n) s t e = has m d (LdU8 n) s t 0 1 refl (pushed _ s t e)
has_effect m d (LdU128 n) s t e = has m d (LdU128 n) s t 0 1 refl (pushed _ s t e)
has_effect m d CastU8 s t e = has m d CastU8 s t 1 1 refl (cast_changes _ s t e)
has_effect m d CastU64 s t e = has m d CastU64 s t 1 1 refl (cast_changes _ s t e)
has_effect m d CastU128 s t e = has m d CastU128 s t 1 1 refl (cast_changes _ s t e)
has_effect m d (LdU16 n) s t e = has m d (LdU16 n) s t 0 1 refl (pushed _ s t e)
has_effect m d (LdU32 n) s t e = has m d (LdU32 n) s t 0 1 refl (pushed _ s t e)
has_effect m d CastU16 s t e = has m d CastU16 s t 1 1 refl (cast_changes _ s t e)
has_effect m d CastU32 s t e = has m d CastU32 s t 1 1 refl (cast_changes _ s t e)
-- an operator on two numbers of one width, or a comparison of them
has_effect m d i s t e = has m d i s t 2 1 refl (two_numbers_change _ s t e)
