-- Each instruction by its row, a step, and a whole run.
use Rattle.mv_soundness.proofs.Typing.Common.{ℕ, ◌+◌, true, List, length, refl, ap, Option, Result, Ok, false, second_so, list_all, ◌==◌, ◌&&◌, slice_get, nat_le, nat_lt, ok_or, ◌||◌}
use Rattle.mv_soundness.proofs.Typing.Common.{not, bit_and, bit_or, bit_xor, successors, Module, FunctionDefinition, Instruction, Ret, BrTrue, BrFalse, Branch, Abort, Call, Boolean}
use Rattle.mv_soundness.proofs.Typing.Common.{Number, ReferenceTo, MutableReferenceTo, U8, U64, sum_of, difference_of, product_of, remainder_of, quotient_of, shifted_left, shifted_right}
use Rattle.mv_soundness.proofs.Typing.Common.{State, root_value, Here, gives, Faults, LinkageFault, entry, Failure, TypeFault, Value, Types, TypesAt, SoundStore, Advance, Row}
use Rattle.mv_soundness.proofs.Typing.Common.{HaveTokens, StateTyped, TurnTyped}
use Rattle.std.specs.Prelude.{◌^◌}
use Rattle.mv_move_types.specs.declared.token.Width.TheVariants.{U16, U32, U128}
use Rattle.mv_move_types.specs.declared.instruction.Instruction.TheVariants.{Pop, LdU64, LdConst, LdTrue, LdFalse, CopyLoc, MoveLoc, StLoc, MutBorrowLoc, ImmBorrowLoc, MutBorrowField}
use Rattle.mv_move_types.specs.declared.instruction.Instruction.TheVariants.{ImmBorrowField, Pack, Unpack, ReadRef, WriteRef, Add, Sub, Mul, Mod, Div, BitOr, BitAnd, Xor, Or, And, Not, Eq}
use Rattle.mv_move_types.specs.declared.instruction.Instruction.TheVariants.{Neq, Lt, Gt, Le, Ge, Nop, Exists, MutBorrowGlobal, ImmBorrowGlobal, MoveFrom, MoveTo, FreezeRef, Shl, Shr}
use Rattle.mv_move_types.specs.declared.instruction.Instruction.TheVariants.{LdU8, LdU128, CastU8, CastU64, CastU128, LdU16, LdU32, CastU16, CastU32}
use Rattle.mv_type_rules.specs.TypeRules.{types_after}
use Rattle.mv_machine.specs.{Step.rule, Step.step, StepLocals.pop, StepReferences.read_reference}
use Rattle.mv_soundness.specs.Typing.Unreached.{Guarded, StepGuarded}
use Rattle.mv_soundness.proofs.{Typing.Parts.Part, Typing.Parts.known, Typing.Parts.passes, Typing.Write.writes, Typing.Structs.packs, Typing.Structs.unpacks, Typing.Calls.calls}
use Rattle.mv_soundness.proofs.{Typing.Calls.returns}
use Rattle.mv_soundness.proofs.Typing.Stays.{gives_typed, here_of, advance_of, row_of}
use Rattle.mv_soundness.proofs.Typing.Families.{binary_typed, comparison_typed, shift_typed, cast_typed, logic_typed, negation_typed, sum_keeps, difference_keeps, product_keeps}
use Rattle.mv_soundness.proofs.Typing.Families.{remainder_keeps, quotient_keeps, or_keeps, and_keeps, xor_keeps, left_keeps, right_keeps}
use Rattle.mv_soundness.proofs.Typing.Locals.{copies, moves, stores, borrows}
use Rattle.mv_soundness.proofs.Typing.References.{mutable_field, immutable_field, reads, freezes, immutable_names, mutable_names}
use Rattle.mv_soundness.proofs.Typing.Globals.{tells, borrows_global, takes_out, puts_in}
use Rattle.mv_soundness.proofs.Typing.Small.{loads, constants, pops, equalities, branches, goes, aborts}

-- a row that changes the operands alone
stack_row : (h : Here) (i : Instruction) (types after : Types) → Row h i types after → TypesAt h.home h.function (h.state.top.at + 1) after → (part : Result (List Value) Failure) →
    Part (λ (stack : List Value). HaveTokens h.modules (root_value h.state) h.home stack after) part → Part (TurnTyped h.modules) (gives h part)
stack_row h i types after row next part typed = gives_typed h i types after part row next typed

-- every instruction that its function's types allow goes on to a typed state, or fails harmlessly
pub rule_typed : (h : Here) (i : Instruction) (types after : Types) → Row h i types after → Guarded i h.state → Part (TurnTyped h.modules) (rule i h)
unfolding rule types_after
rule_typed h Pop ts after row g = stack_row h Pop ts after row row.leads.0 (pop h h.state.top.stack) (pops h Pop ts after row row.rule)
rule_typed h Ret ts after row g = returns h ts after row row.rule g
rule_typed h (BrTrue t) ts after row g = branches h (BrTrue t) ts after row true t row.rule row.leads.0 row.leads.1.0
rule_typed h (BrFalse t) ts after row g = branches h (BrFalse t) ts after row false t row.rule row.leads.0 row.leads.1.0
rule_typed h (Branch t) ts after row g = goes h (Branch t) ts after row t row.rule row.leads.0
rule_typed h (LdU64 n) ts after row g = loads h (LdU64 n) ts after row (Number U64) n row.leads.0 row.rule row.fits
rule_typed h (LdConst c) ts after row g = constants h (LdConst c) ts after row c row.leads.0 row.rule
rule_typed h LdTrue ts after row g = loads h LdTrue ts after row Boolean 1 row.leads.0 row.rule refl
rule_typed h LdFalse ts after row g = loads h LdFalse ts after row Boolean 0 row.leads.0 row.rule refl
rule_typed h (CopyLoc l) ts after row g = copies h (CopyLoc l) ts after row row.leads.0 l row.rule
rule_typed h (MoveLoc l) ts after row g = moves h (MoveLoc l) ts after row row.leads.0 l row.rule g
rule_typed h (StLoc l) ts after row g = stores h (StLoc l) ts after row row.leads.0 l row.rule g
rule_typed h (MutBorrowLoc l) ts after row g = borrows h (MutBorrowLoc l) ts after row row.leads.0 true MutableReferenceTo (mutable_names h.home) l row.rule
rule_typed h (ImmBorrowLoc l) ts after row g = borrows h (ImmBorrowLoc l) ts after row row.leads.0 false ReferenceTo (immutable_names h.home) l row.rule
rule_typed h (MutBorrowField k) ts after row g = mutable_field h (MutBorrowField k) ts after row row.leads.0 k row.rule
rule_typed h (ImmBorrowField k) ts after row g = immutable_field h (ImmBorrowField k) ts after row row.leads.0 k row.rule
rule_typed h (Call k) ts after row g = calls h k ts after row row.leads.0 row.rule
rule_typed h (Pack k) ts after row g = packs h (Pack k) ts after row row.leads.0 k row.rule
rule_typed h (Unpack k) ts after row g = unpacks h (Unpack k) ts after row row.leads.0 k row.rule
rule_typed h ReadRef ts after row g = stack_row h ReadRef ts after row row.leads.0 (read_reference h h.state.top.stack) (reads h ReadRef ts after row row.leads.0 row.rule)
rule_typed h WriteRef ts after row g = writes h WriteRef ts after row row.leads.0 row.rule
rule_typed h Add ts after row g = stack_row h Add ts after row row.leads.0 _ (binary_typed h.modules (root_value h.state) h.home sum_of sum_keeps h.state.top.stack ts after row.stands.stack row.rule)
rule_typed h Sub ts after row g =
    stack_row h Sub ts after row row.leads.0 _ (binary_typed h.modules (root_value h.state) h.home difference_of difference_keeps h.state.top.stack ts after row.stands.stack row.rule)
rule_typed h Mul ts after row g =
    stack_row h Mul ts after row row.leads.0 _ (binary_typed h.modules (root_value h.state) h.home product_of product_keeps h.state.top.stack ts after row.stands.stack row.rule)
rule_typed h Mod ts after row g =
    stack_row h Mod ts after row row.leads.0 _ (binary_typed h.modules (root_value h.state) h.home remainder_of remainder_keeps h.state.top.stack ts after row.stands.stack row.rule)
rule_typed h Div ts after row g =
    stack_row h Div ts after row row.leads.0 _ (binary_typed h.modules (root_value h.state) h.home quotient_of quotient_keeps h.state.top.stack ts after row.stands.stack row.rule)
rule_typed h BitOr ts after row g =
    stack_row h BitOr ts after row row.leads.0 _ (binary_typed h.modules (root_value h.state) h.home (λ w x y. Ok (bit_or x y)) or_keeps h.state.top.stack ts after row.stands.stack row.rule)
rule_typed h BitAnd ts after row g =
    stack_row h BitAnd ts after row row.leads.0 _ (binary_typed h.modules (root_value h.state) h.home (λ w x y. Ok (bit_and x y)) and_keeps h.state.top.stack ts after row.stands.stack row.rule)
rule_typed h Xor ts after row g =
    stack_row h Xor ts after row row.leads.0 _ (binary_typed h.modules (root_value h.state) h.home (λ w x y. Ok (bit_xor x y)) xor_keeps h.state.top.stack ts after row.stands.stack row.rule)
rule_typed h Or ts after row g = stack_row h Or ts after row row.leads.0 _ (logic_typed h.modules (root_value h.state) h.home ◌||◌ h.state.top.stack ts after row.stands.stack row.rule)
rule_typed h And ts after row g = stack_row h And ts after row row.leads.0 _ (logic_typed h.modules (root_value h.state) h.home ◌&&◌ h.state.top.stack ts after row.stands.stack row.rule)
rule_typed h Not ts after row g = stack_row h Not ts after row row.leads.0 _ (negation_typed h.modules (root_value h.state) h.home h.state.top.stack ts after row.stands.stack row.rule)
rule_typed h Eq ts after row g = stack_row h Eq ts after row row.leads.0 _ (equalities h Eq ts after row (λ same. same) row.rule)
rule_typed h Neq ts after row g = stack_row h Neq ts after row row.leads.0 _ (equalities h Neq ts after row not row.rule)
rule_typed h Lt ts after row g = stack_row h Lt ts after row row.leads.0 _ (comparison_typed h.modules (root_value h.state) h.home nat_lt h.state.top.stack ts after row.stands.stack row.rule)
rule_typed h Gt ts after row g =
    stack_row h Gt ts after row row.leads.0 _ (comparison_typed h.modules (root_value h.state) h.home (λ x y. nat_lt y x) h.state.top.stack ts after row.stands.stack row.rule)
rule_typed h Le ts after row g = stack_row h Le ts after row row.leads.0 _ (comparison_typed h.modules (root_value h.state) h.home nat_le h.state.top.stack ts after row.stands.stack row.rule)
rule_typed h Ge ts after row g =
    stack_row h Ge ts after row row.leads.0 _ (comparison_typed h.modules (root_value h.state) h.home (λ x y. nat_le y x) h.state.top.stack ts after row.stands.stack row.rule)
rule_typed h Abort ts after row g = aborts h Abort ts after row row.rule
rule_typed h Nop ts after row g = goes h Nop ts after row (h.state.top.at + 1) row.rule row.leads.0
rule_typed h (Exists k) ts after row g = tells h (Exists k) ts after row row.leads.0 k row.rule
rule_typed h (MutBorrowGlobal k) ts after row g = borrows_global h (MutBorrowGlobal k) ts after row row.leads.0 true MutableReferenceTo (mutable_names h.home) k row.rule
rule_typed h (ImmBorrowGlobal k) ts after row g = borrows_global h (ImmBorrowGlobal k) ts after row row.leads.0 false ReferenceTo (immutable_names h.home) k row.rule
rule_typed h (MoveFrom k) ts after row g = takes_out h (MoveFrom k) ts after row row.leads.0 k row.rule g
rule_typed h (MoveTo k) ts after row g = puts_in h (MoveTo k) ts after row row.leads.0 k row.rule
rule_typed h FreezeRef ts after row g = stack_row h FreezeRef ts after row row.leads.0 _ (freezes h FreezeRef ts after row row.leads.0 row.rule)
rule_typed h Shl ts after row g =
    stack_row h Shl ts after row row.leads.0 _ (shift_typed h.modules (root_value h.state) h.home shifted_left left_keeps h.state.top.stack ts after row.stands.stack row.rule)
rule_typed h Shr ts after row g =
    stack_row h Shr ts after row row.leads.0 _ (shift_typed h.modules (root_value h.state) h.home shifted_right right_keeps h.state.top.stack ts after row.stands.stack row.rule)
rule_typed h (LdU8 n) ts after row g = loads h (LdU8 n) ts after row (Number U8) n row.leads.0 row.rule row.fits
rule_typed h (LdU128 n) ts after row g = loads h (LdU128 n) ts after row (Number U128) n row.leads.0 row.rule row.fits
rule_typed h CastU8 ts after row g = stack_row h CastU8 ts after row row.leads.0 _ (cast_typed h.modules (root_value h.state) h.home U8 h.state.top.stack ts after row.stands.stack row.rule)
rule_typed h CastU64 ts after row g = stack_row h CastU64 ts after row row.leads.0 _ (cast_typed h.modules (root_value h.state) h.home U64 h.state.top.stack ts after row.stands.stack row.rule)
rule_typed h CastU128 ts after row g = stack_row h CastU128 ts after row row.leads.0 _ (cast_typed h.modules (root_value h.state) h.home U128 h.state.top.stack ts after row.stands.stack row.rule)
rule_typed h (LdU16 n) ts after row g = loads h (LdU16 n) ts after row (Number U16) n row.leads.0 row.rule (second_so (h.home.version == 6) (nat_lt n (2 ^ 16)) row.fits)
rule_typed h (LdU32 n) ts after row g = loads h (LdU32 n) ts after row (Number U32) n row.leads.0 row.rule (second_so (h.home.version == 6) (nat_lt n (2 ^ 32)) row.fits)
rule_typed h CastU16 ts after row g = stack_row h CastU16 ts after row row.leads.0 _ (cast_typed h.modules (root_value h.state) h.home U16 h.state.top.stack ts after row.stands.stack row.rule)
rule_typed h CastU32 ts after row g = stack_row h CastU32 ts after row row.leads.0 _ (cast_typed h.modules (root_value h.state) h.home U32 h.state.top.stack ts after row.stands.stack row.rule)

-- a step of a typed state meets no fault of types, links or dangling references, and leads to a typed state
pub step_typed : (modules : List Module) (s : State) → SoundStore modules → StateTyped modules s → StepGuarded modules s → Part (TurnTyped modules) (step modules s)
unfolding step
step_typed modules s store typed guarded =
    let h : Here = here_of modules s typed in
    let a : Advance typed.home typed.function s.top.at typed.types = advance_of modules s store typed in
    let row : Row h a.instruction typed.types a.after = row_of modules s store typed in
    known (TurnTyped modules) (entry modules s.top.function.place) _ typed.home (ap (λ (x : Option Module). ok_or x (Faults LinkageFault)) typed.is_home)
    (known (TurnTyped modules) (entry typed.home.functions s.top.function.index) _ typed.function (ap (λ (x : Option FunctionDefinition). ok_or x (Faults LinkageFault)) typed.is_function)
    (known (TurnTyped modules) (ok_or (slice_get typed.function.code s.top.at) (Faults TypeFault)) _ a.instruction (ap (λ (x : Option Instruction). ok_or x (Faults TypeFault)) a.is_there)
    (passes (TurnTyped modules) (list_all (λ t. nat_lt t (length typed.function.code)) (successors s.top.at a.instruction)) _ _ a.inside
    (rule_typed h a.instruction typed.types a.after row (guarded typed.home typed.function a.instruction typed.is_home typed.is_function a.is_there)))))

-- the count of steps is no matter of types
pub counted_typed : (modules : List Module) (s : State) (steps : ℕ) → StateTyped modules s → StateTyped modules (record s { steps = steps })
counted_typed modules s steps typed = record {
  home = typed.home;
  function = typed.function;
  types = typed.types;
  is_home = typed.is_home;
  is_function = typed.is_function;
  are_types = typed.are_types;
  stands = record {
    tokens = typed.stands.tokens;
    results = typed.stands.results;
    numbered = typed.stands.numbered;
    are_tokens = typed.stands.are_tokens;
    are_results = typed.stands.are_results;
    locals = typed.stands.locals;
    stack = typed.stands.stack;
    below = typed.stands.below;
    storage = typed.stands.storage;
  };
}
