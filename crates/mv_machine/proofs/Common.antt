-- What the proofs of this crate speak of all along: words and lemmas of std, names and types of modules, and specs of this crate.
pub use Rattle.std.proofs.Common.{[], ℕ, ◌++◌, ◌+◌, ◌∙◌, ◌∷◌, ◌≡◌, Bool, Err, List, None, Ok, Option, Result, Some, ap, ap₂, cond, false, length, not, refl, reverse, subst, suc, sym, true}
pub use Rattle.std.proofs.Common.{zero}
pub use Rattle.std.proofs.lemmas.Bool.{eqb-true}
pub use Rattle.std.specs.Cmp.{first_so, second_so}
pub use Rattle.std.specs.List.{AllByRecursion, list_all}
pub use Rattle.std.specs.Prelude.{◌&&◌, ◌==◌, ◌||◌, codes, is_some, nat_le, nat_lt, ok_or, slice_get}
pub use Rattle.mv_move_types.specs.Module.{FunctionDefinition, Module}
pub use Rattle.mv_move_types.specs.Names.{StructName, same_struct}
pub use Rattle.mv_move_types.specs.Results.{◌>>=◌, ◌>>◌, for_each, need}
pub use Rattle.mv_move_types.specs.Tags.{Tag}
pub use Rattle.mv_move_types.specs.Tokens.{same_width}
pub use Rattle.mv_move_types.specs.declared.instruction.Instruction.{Instruction}
pub use Rattle.mv_move_types.specs.declared.instruction.Instruction.TheVariants.{Abort, Add, And, BitAnd, BitOr, BrFalse, BrTrue, Branch, Call, CastU128, CastU16, CastU32, CastU64, CastU8}
pub use Rattle.mv_move_types.specs.declared.instruction.Instruction.TheVariants.{CopyLoc, Div, Eq, Exists, FreezeRef, Ge, Gt, ImmBorrowField, ImmBorrowGlobal, ImmBorrowLoc, LdConst, LdFalse}
pub use Rattle.mv_move_types.specs.declared.instruction.Instruction.TheVariants.{LdTrue, LdU128, LdU16, LdU32, LdU64, LdU8, Le, Lt, Mod, MoveFrom, MoveLoc, MoveTo, Mul, MutBorrowField}
pub use Rattle.mv_move_types.specs.declared.instruction.Instruction.TheVariants.{MutBorrowGlobal, MutBorrowLoc, Neq, Nop, Not, Or, Pack, Pop, ReadRef, Ret, Shl, Shr, StLoc, Sub, Unpack}
pub use Rattle.mv_move_types.specs.declared.instruction.Instruction.TheVariants.{WriteRef, Xor}
pub use Rattle.mv_move_types.specs.declared.tables.FunctionHandle.{FunctionHandle}
pub use Rattle.mv_move_types.specs.declared.tables.Visibility.TheVariants.{Public}
pub use Rattle.mv_move_types.specs.declared.token.LeafKind.{LeafKind}
pub use Rattle.mv_move_types.specs.declared.token.LeafKind.TheVariants.{Address, Boolean, Number, Signer}
pub use Rattle.mv_move_types.specs.declared.token.Token.{Token}
pub use Rattle.mv_move_types.specs.declared.token.Token.TheVariants.{MutableReference, Plain}
pub use Rattle.mv_move_types.specs.declared.token.ValueType.TheVariants.{OfLeaf, OfStruct}
pub use Rattle.mv_move_types.specs.declared.token.Width.{Width}
pub use Rattle.mv_move_types.specs.declared.token.Width.TheVariants.{U64, U8}
unfoldable pub use Rattle.mv_machine.specs.Ledger.{admitted}
pub use Rattle.mv_machine.specs.Live.{is_frozen_by, live}
pub use Rattle.mv_machine.specs.Run.{Aborted, Exhausted, Faulted, FunctionCall, Returned, RunOutcome, follows, goes_with}
unfoldable pub use Rattle.mv_machine.specs.Run.{run, turns}
pub use Rattle.mv_machine.specs.State.{Frame, State, Storage, place_value, stored_at, with_place, with_stored, without_stored}
pub use Rattle.mv_machine.specs.Step.{Goes, OwnStruct, Returns, entered_frame}
unfoldable pub use Rattle.mv_machine.specs.Step.{rule, step}
unfoldable pub use Rattle.mv_machine.specs.StepControl.{abort, branch_if, call, callee, found_by, return_results, said_by, signature_tags}
pub use Rattle.mv_machine.specs.StepGlobals.{key_at}
unfoldable pub use Rattle.mv_machine.specs.StepGlobals.{borrow_global, exists, keyed_struct, move_from, move_to}
pub use Rattle.mv_machine.specs.StepLocals.{with_own_local}
unfoldable pub use Rattle.mv_machine.specs.StepLocals.{borrow_local, copy_local, held, move_local, pop, store_local}
unfoldable pub use Rattle.mv_machine.specs.StepNumbers.{binary, cast, comparison, constant, equality, logic, negation, shift}
pub use Rattle.mv_machine.specs.StepParts.{Here, Turn, can_copy, can_drop, gives, goes_on, goes_to, is_reference_tag, may_drop, pushes, with_stack}
unfoldable pub use Rattle.mv_machine.specs.StepReferences.{borrow_field, freeze, own_field, read_reference, write_reference}
pub use Rattle.mv_machine.specs.StepStructs.{noted}
unfoldable pub use Rattle.mv_machine.specs.StepStructs.{own_struct, pack, unpack}
pub use Rattle.mv_machine.specs.Typing.{Aborts, DanglingFault, Failure, Faults, LinkageFault, TypeFault, entry, has_tag, have_tags, linked, tag_named, tag_of}
pub use Rattle.mv_machine.specs.Value.{Leaf, More, NoMore, Place, Ref, Reference, Stored, Struct, Value, Values, fields_of, list_of}
pub use Rattle.mv_machine.specs.declared.Kind.TheVariants.{Exists as AlreadyThere, Arith, Code, Missing}
