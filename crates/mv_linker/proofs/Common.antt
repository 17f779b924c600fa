-- What the proofs of this crate's functions speak of all along: words and lemmas of std, names and types of modules, bounds of modules, and
-- specs of this crate.
pub use Rattle.std.proofs.Common.{[], ℕ, ◌++◌, ◌+◌, ◌-◌, ◌<◌, ◌↔◌, ◌∙◌, ◌∷◌, ◌≡◌, ◌≤◌, ◌⊎◌, Bool, Bor, Contains, Err, Global, IfOk}
pub use Rattle.std.proofs.Common.{List, None, Ok, Option, Result, Some, Vec, add-one, ap, append-nil, append_assoc, ap₂, arith, cond, drop, eqb, false, get_or, inl, inr, leb}
pub use Rattle.std.proofs.Common.{length, ltb, map, option_map, refl, rules, slice_get, subst, suc, sym, take, true, unwrap_or, zero}
pub use Rattle.std.proofs.lemmas.Bool.{and_from, and_parts, both_ways, cases_Bool, cases_cond, cases_eq, cases_lt, eq-eqb, eqb-false, eqb-true, false_from_ne_true, le-leb}
pub use Rattle.std.proofs.lemmas.Bool.{leb-false, leb-true, lt-leb, lt-ltb, ltb-true, ne_eqb, not-true, or_cases, or_left, or_right}
pub use Rattle.std.proofs.lemmas.Bool.Decides.{nat_tests}
pub use Rattle.std.proofs.lemmas.List.{length-map, length_push, map-append, nil_from_length, take_all, take_more}
pub use Rattle.std.proofs.lemmas.List.Elements.{All-cons, All-contains, All-head, All-nil, All-push, All-tail}
pub use Rattle.std.proofs.lemmas.Option.{MatchOption-at_none, MatchOption-at_some, cond_some, get_or_from_slice_get, none-some, same_Some, slice_get-get_or, slice_get-map, slice_get_past}
pub use Rattle.std.proofs.lemmas.Option.{slice_get_read, slice_get_within}
pub use Rattle.std.proofs.lemmas.Result.{IfErr-weaker, IfOk-weaker, err_from_is_err_and}
pub use Rattle.std.proofs.lemmas.Simd.{map-map}
pub use Rattle.std.proofs.lemmas.Slice.Eq.{bytes_eq-Decides}
pub use Rattle.std.specs.Bool.{beq}
pub use Rattle.std.specs.Cmp.{booleans_Decides, first_so, nat_eq_equiv, second_so}
pub use Rattle.std.specs.List.{AllZip, list_all, list_any, zip}
pub use Rattle.std.specs.Map.{keys_of, lookup, values_of}
pub use Rattle.std.specs.Option.{IsSome, option_map_or, option_or}
pub use Rattle.std.specs.Prelude.{◌&&◌, ◌==◌, ◌||◌, All, IfErr, IfSome, IsTrue, OnOk, fold, is_some, nat_le, not, option_and_then, position, slice_set}
pub use Rattle.std.specs.Str.{bytes_eq}
pub use Rattle.mv_move_types.specs.AbilitySets.{same_abilities}
pub use Rattle.mv_move_types.specs.Leaves.{leaves_of, leaves_within, sum_of_fields}
pub use Rattle.mv_move_types.specs.Module.{FunctionDefinition, Module, StructDefinition, module_name, name_at, name_of_function, name_of_struct, own_name}
pub use Rattle.mv_move_types.specs.Module.{parameter_tokens, struct_abilities, struct_name}
pub use Rattle.mv_move_types.specs.Named.{declared, declared_in, definition_of, function_place, is_module, is_public, is_struct, module_named, module_place}
pub use Rattle.mv_move_types.specs.Names.{ModuleName, StructName, same_module, same_struct}
pub use Rattle.mv_move_types.specs.Options.{◌>>=◌, find_index}
pub use Rattle.mv_move_types.specs.Published.{PublishedModule, with_module, with_modules}
pub use Rattle.mv_move_types.specs.Refusals.{IsRefusedIn}
pub use Rattle.mv_move_types.specs.Tags.{LeafTag, ReferenceTag, StructTag, Tag, same_tag, same_tags}
pub use Rattle.mv_move_types.specs.declared.refusal.Refusal.{Refusal}
pub use Rattle.mv_move_types.specs.declared.refusal.Refusal.TheVariants.{Memory, Phase}
pub use Rattle.mv_move_types.specs.declared.tables.Definition.{Definition}
pub use Rattle.mv_move_types.specs.declared.tables.Field.{Field}
pub use Rattle.mv_move_types.specs.declared.tables.FunctionHandle.{FunctionHandle}
pub use Rattle.mv_move_types.specs.declared.tables.StructHandle.{StructHandle}
pub use Rattle.mv_move_types.specs.declared.token.Abilities.{Abilities}
pub use Rattle.mv_move_types.specs.declared.token.Token.{Token}
pub use Rattle.mv_move_types.specs.declared.token.Token.TheVariants.{MutableReference, Plain, Reference}
pub use Rattle.mv_move_types.specs.declared.token.ValueType.{ValueType}
pub use Rattle.mv_move_types.specs.declared.token.ValueType.TheVariants.{OfLeaf, OfStruct}
pub use Rattle.mv_bound_rules.proofs.PlaceLemmas.{slice_get-first, slice_get-second}
pub use Rattle.mv_bound_rules.specs.Bounds.{InBounds}
pub use Rattle.mv_bound_rules.specs.Definitions.{WellDefined, all_differ}
pub use Rattle.mv_module_text.proofs.Texts.{on_bind}
pub use Rattle.mv_type_rules.specs.Sound.{IsSound}
pub use Rattle.mv_linker.proofs.Counted.{count_after}
pub use Rattle.mv_linker.proofs.KeptSlots.{IsSlot, KeepsSlots}
pub use Rattle.mv_linker.specs.Code.{called, entered, entered_in, operations, operations_from, program}
pub use Rattle.mv_linker.specs.Codes.{IsCallee, IsCode, IsSlotOf}
pub use Rattle.mv_linker.specs.DependencyGraph.{AreHandlePlaces, AreNeeds, IsOrdered, others}
pub use Rattle.mv_linker.specs.Found.{AreOutlines, AreTargets, IsFound, IsTarget}
pub use Rattle.mv_linker.specs.FoundStructs.{AreFoundFor, IsFoundAt}
pub use Rattle.mv_interface.specs.Identifiers.{struct_identifier}
pub use Rattle.mv_linker.specs.Indexed.{ArePlacesOf, PutsName, PutsPlace, has_name_of}
pub use Rattle.mv_interface.specs.Interface.{AreTypes, AreTypesOf, IsInterface, IsType}
pub use Rattle.mv_linker.specs.Kept.{AreKeyed, Kept, name_in, published_as, published_in, published_under}
pub use Rattle.mv_link_rules.specs.Link.{AreSentBy, IsPublishable, IsStore, MayJoin, all_follow, are_compatible, follows, have_one_name, is_sent_by, replaced_in, tables_in}
pub use Rattle.mv_lowering.specs.Linked.{linked_module, others_in, program_of, programs_from}
pub use Rattle.mv_lowering.specs.Linked.{width_of_others}
pub use Rattle.mv_linker.specs.Lowered.{AreOthers, AreOwnSizes, AreSized, IsCalled, IsLoweredIn, widths_in, words_of_size}
pub use Rattle.mv_lowering.specs.Lowered.{IsLowered, called_by}
pub use Rattle.mv_interface.specs.Outline.{AreEach, FunctionOutline, IsFunctionNamed, IsFunctionOutline, IsOutline, IsStructOutline, OutlineView, StructOutline}
pub use Rattle.mv_linker.specs.Matches.{IsOf, IsStructOf, function_matches, struct_matches}
pub use Rattle.mv_linker.specs.News.{published_of, published_one}
pub use Rattle.mv_linker.specs.Relinked.{AreSizesAt, IsSmallAt, IsStruct, Joins}
pub use Rattle.mv_lowering.specs.Resolved.{AreCallees, AreWidths, callee_of, width_of_handle}
pub use Rattle.mv_linker.specs.Scope.{all_named, found_among, offered, place_for, places_in, with_table, with_tables}
pub use Rattle.mv_linker.specs.ScopeDependencies.{AreDependenciesIn}
pub use Rattle.mv_linker.proofs.Terms.{ArePlaces}
pub use Rattle.mv_interface.specs.Shapes.{AreFieldsAt, AreParts, IsPart, has_key, is_keyed, structs_in}
pub use Rattle.mv_linker.specs.Sizes.{AreDefined, AreSizes, AreSmall, IsDefined, IsSized, Total, greater, next_rows, row_of, rows_after, size_at, size_of_struct}
pub use Rattle.mv_linker.specs.Sizes.{size_of_token, small_size, total_of}
pub use Rattle.mv_link_rules.specs.StoreRules.{Links, Reaches, depends_on, directly, function_fits, function_is_there, function_named, further, module_is_there}
pub use Rattle.mv_link_rules.specs.StoreRules.{modules_are_there, names_hold, names_module, struct_is_small, struct_is_there, structs_are_there}
pub use Rattle.mv_linker.specs.Slots.{AreFilled, AreOnce, AreSlots, GivesSlot, GoOn, IsFilled, IsMoved, IsOpen, IsOpenAt, callee_by, exports_at, exports_from, slot_number, slot_of}
pub use Rattle.mv_linker.specs.Slotted.{AreSlotted, IsSlotted}
pub use Rattle.mv_linker.specs.Stored.{AreCodesOf, AreLowered, AreNames, AreNamesOf, IsLinkedTo, IsSizeAt, LinkedBundle, with_at, with_codes}
pub use Rattle.mv_linker.specs.Targets.{AreFunctionsAt, AreStructsAt, EachAt, IsFunctionAt, IsFunctionIn, IsStructAt, modules_in}
pub use Rattle.mv_bound_rules.specs.TypesByName.{both_there, same_signature, same_types, signature_named, token_named, tokens_named, value_type_named}
pub use Rattle.mv_link_rules.specs.Upgrades.{function_stays, have_one_type, may_replace, same_fields, same_struct_definition, structs_stay}
pub use Rattle.mv_lowering.specs.Widths.{width_of_tag, width_of_token, width_of_tokens}
pub use Rattle.mv_lowering.specs.Words.{words_by}
pub use Rattle.mv_linker.specs.declared.New.{New}
pub use Rattle.mv_linker.specs.declared.store.code.Callee.{Callee}
pub use Rattle.mv_linker.specs.declared.store.code.Code.{Code}
pub use Rattle.mv_linker.specs.declared.store.entry.Name.{Name}
pub use Rattle.mv_linker.specs.declared.store.entry.Texts.{Texts}
pub use Rattle.mv_interface.specs.declared.interface.Interface.{Interface}
pub use Rattle.mv_interface.specs.declared.interface.LinkedType.{LinkedType}
pub use Rattle.mv_interface.specs.declared.interface.Signature.{Signature}
pub use Rattle.mv_linker.specs.declared.rules.scope.Scope.{Scope}
pub use Rattle.mv_interface.specs.declared.shapes.Part.{Part}
pub use Rattle.mv_interface.specs.declared.shapes.Part.TheVariants.{Leaf, Nothing, Struct}
pub use Rattle.mv_linker.specs.declared.rules.sizes.Defined.{Defined}
pub use Rattle.mv_linker.specs.declared.rules.sizes.Defined.TheVariants.{Bundled, Published}
pub use Rattle.mv_linker.specs.declared.rules.sizes.Size.{Size}
pub use Rattle.mv_linker.specs.declared.rules.store_rules.Names.{Names}
pub use Rattle.mv_linker.specs.declared.rules.named_modules.Found.{Found}
pub use Rattle.mv_linker.specs.declared.rules.named_modules.Target.{Target}
pub use Rattle.mv_lowering.specs.declared.callees.Called.{Called}
pub use Rattle.mv_linker.specs.declared.lowering.to_link.Lowered.{Lowered}
unfoldable pub use Rattle.mv_lowering.specs.Lowered.{words_of_others}
