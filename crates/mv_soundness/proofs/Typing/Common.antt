-- What the theory of types speaks of all along: words and lemmas of std, types and instructions, the machine's rules, and the specs of this theory.
pub use Rattle.std.proofs.Common.{◌≡◌, ℕ, zero, suc, ◌+◌, ◌-◌, ◌*◌, ◌^◌, ◌<◌, ◌≤◌, true, List, [], ◌∷◌, length, refl, ap, subst, ◌∙◌, arith, ◌++◌, Option, Some, None, Result, Ok, Bool}
pub use Rattle.std.proofs.Common.{false, take, drop, sym, ◌⊎◌, inl, inr, ap₂, cond, map, reverse, Err, eqb}
pub use Rattle.std.proofs.lemmas.Bool.{ltb-true, lt-ltb, eqb-true, and_from, eq-eqb, ne_eqb, eqb-false, or_right, false_from_ne_true}
pub use Rattle.std.proofs.lemmas.Nat.{pow-add}
pub use Rattle.std.proofs.lemmas.Option.{same_Some, none-some, option_and_then_some}
pub use Rattle.std.specs.Bool.{beq}
pub use Rattle.std.specs.Cmp.{first_so, second_so, booleans_Decides}
pub use Rattle.std.specs.List.{list_all, list_any}
pub use Rattle.std.specs.Option.{option_map_or}
pub use Rattle.std.specs.Prelude.{IsTrue, ◌==◌, ◌&&◌, slice_get, nat_le, nat_lt, ok_or, ◌||◌, option_and_then, not, option_map, slice_index, slice_range, flat_map, bit_and, bit_or}
pub use Rattle.std.specs.Prelude.{bit_xor, slice_set, is_some}
pub use Rattle.mv_move_types.specs.Flow.{ends_block, successors}
pub use Rattle.mv_move_types.specs.Module.{Module, FunctionDefinition, struct_name, own_name, StructDefinition, name_at, local_tokens, Constant}
pub use Rattle.mv_move_types.specs.Named.{module_place, function_place, module_named, definition_of}
pub use Rattle.mv_move_types.specs.Names.{StructName, ModuleName}
pub use Rattle.mv_move_types.specs.Numbers.{leaf_number}
pub use Rattle.mv_move_types.specs.Options.{◌>>=◌}
pub use Rattle.mv_move_types.specs.Results.{◌>>◌, need, for_each, ◌>>=◌ as ◌>>=ᵣ◌}
pub use Rattle.mv_move_types.specs.Tags.{Tag, LeafTag, StructTag, ReferenceTag}
pub use Rattle.mv_move_types.specs.Tokens.{same_kind, same_tokens, width_bits, same_width, same_value_type}
pub use Rattle.mv_move_types.specs.declared.instruction.Instruction.{Instruction}
pub use Rattle.mv_move_types.specs.declared.instruction.Instruction.TheVariants.{Ret, BrTrue, BrFalse, Branch, Abort, Call}
pub use Rattle.mv_move_types.specs.declared.tables.Field.{Field}
pub use Rattle.mv_move_types.specs.declared.tables.FunctionHandle.{FunctionHandle}
pub use Rattle.mv_move_types.specs.declared.tables.Key.{Key}
pub use Rattle.mv_move_types.specs.declared.tables.StructHandle.{StructHandle}
pub use Rattle.mv_move_types.specs.declared.token.Abilities.{Abilities}
pub use Rattle.mv_move_types.specs.declared.token.LeafKind.{LeafKind}
pub use Rattle.mv_move_types.specs.declared.token.LeafKind.TheVariants.{Address, Boolean, Number, Signer}
pub use Rattle.mv_move_types.specs.declared.token.Token.{Token}
pub use Rattle.mv_move_types.specs.declared.token.Token.TheVariants.{Plain, Reference as ReferenceTo, MutableReference as MutableReferenceTo}
pub use Rattle.mv_move_types.specs.declared.token.ValueType.{ValueType}
pub use Rattle.mv_move_types.specs.declared.token.ValueType.TheVariants.{OfLeaf, OfStruct}
pub use Rattle.mv_move_types.specs.declared.token.Width.{Width}
pub use Rattle.mv_move_types.specs.declared.token.Width.TheVariants.{U8, U64}
pub use Rattle.mv_machine.specs.Live.{references, local_references}
pub use Rattle.mv_machine.specs.Numbers.{sum_of, difference_of, product_of, remainder_of, quotient_of, shifted_left, shifted_right}
pub use Rattle.mv_machine.specs.Run.{FunctionCall}
pub use Rattle.mv_machine.specs.State.{Frame, State, frames, root_value, local_in, local_value, Storage, stored_at, with_stored, same_key, Entry, with_local, without_stored}
pub use Rattle.mv_machine.specs.Step.{Here, operands, OwnStruct, operand, as_reference, follow, with_stack, goes_on, is_reference_tag, may_drop}
pub use Rattle.mv_machine.specs.StepControl.{Callee}
pub use Rattle.mv_machine.specs.StepLocals.{with_own_local}
pub use Rattle.mv_machine.specs.StepParts.{truth, untouched, gives, can_copy, as_fields, can_drop}
pub use Rattle.mv_machine.specs.Typed.{abilities_at}
pub use Rattle.mv_machine.specs.Typing.{Faults, LinkageFault, entry, tag_named, LostFault, FrozenFault, have_tags, DanglingFault, has_tag, Failure, tag_of, TypeFault, Aborts, plain_tag}
pub use Rattle.mv_machine.specs.Value.{Value, Leaf, Struct, Ref, Root, Local, Stored, Values, NoMore, More, Reference, Place, list_of, value_at, with_value_at}
pub use Rattle.mv_bound_rules.specs.Bounds.{below, function_in, instruction_in, local_count, token_in, struct_in, field_in}
pub use Rattle.mv_cfg.proofs.Beginnings.{IsAscending}
pub use Rattle.mv_cfg.specs.Blocks.{ends_well, BasicBlock, starts_from}
pub use Rattle.mv_module_text.proofs.Texts.{on_bind}
pub use Rattle.mv_module_text.specs.Fits.{address_fits, function_definition_fits, instruction_fits, is_byte, is_index, constant_fits, token_fits}
pub use Rattle.mv_bound_rules.proofs.Found.{then_found}
pub use Rattle.mv_bound_rules.proofs.NameLemmas.{same_module-same, same_struct-same}
pub use Rattle.mv_link_rules.specs.StoreRules.{structs_are_there}
pub use Rattle.mv_bound_rules.specs.TypesByName.{token_named, tokens_named, value_type_named}
pub use Rattle.mv_storage.proofs.Keys.{same_key-to}
pub use Rattle.mv_storage.proofs.PlaceLemmas.{slice_get-set_other}
pub use Rattle.mv_bound_rules.proofs.Tokens.{lists_equal, tokens_equal}
pub use Rattle.mv_type_rules.specs.TypeRules.{Types, boolean, takes_gives, taken, top_type, plain_of, number, mutable_target_of}
pub use Rattle.mv_type_rules.specs.TypesAt.{TypesAt}
pub use Rattle.mv_type_rules.specs.TypesHold.{function_is_typed, types_through}
pub use Rattle.mv_soundness.specs.Typing.Accepted.{StoreAccepted, ModuleAccepted}
pub use Rattle.mv_soundness.proofs.Typing.Facts.{SoundStore, Advance, Row, Facts, CallFacts, Named, are_plain, ConstantFacts}
pub use Rattle.mv_soundness.specs.Typing.HasType.{in_range, Roots, Rooted, IsOf, AreOf, Table, HasType, AtOnce, PointsTo, LentHaveTypes}
pub use Rattle.mv_soundness.proofs.Typing.HaveTypes.{HaveTypes}
pub use Rattle.mv_soundness.specs.Typing.StateTyped.{HasToken, HaveTokens, LocalsHaveTokens, Numbered, AreWaiting, StateTyped, TurnTyped, EntryTyped, StorageTyped, LocalHasToken}
pub use Rattle.mv_soundness.specs.Typing.StateTyped.{IsWaiting}
pub use Rattle.mv_soundness.specs.Typing.Unreached.{Avoid, Unreached, BelowAvoid}
pub use Rattle.mv_signatures.specs.Signatures.{may_be_field}
pub use Rattle.mv_abilities.specs.Abilities.{token_abilities, value_type_abilities}
pub use Rattle.mv_bound_rules.proofs.Entries.{all_at, there_below}
