-- What the proofs of this crate speak of all along: words and lemmas of std, names and types of modules, numbers as bytes, texts of entries,
-- the machine's rules, certificates, the store and its linked code, runs of linked code, the storage, and specs of this crate.
pub use Rattle.std.proofs.Common.{[], ◌*◌, ◌++◌, ◌+◌, ◌-◌, ◌/◌, ◌<◌, ◌^◌, ◌∙◌, ◌∷◌, ◌≡◌, ◌≤◌, ◌⊎◌, Bool, Bor, Err, IsTrue, List, None, Ok, Option, Result, Some, ap, append-nil, append_assoc}
pub use Rattle.std.proofs.Common.{ap₂, arith, cond, drop, eq-eqb, false, flat_map, get_or, inl, inr, le-leb, leb-true, length, length-append, lt-ltb, map, nat_cmp, option_map, refl, rules}
pub use Rattle.std.proofs.Common.{subst, suc, sym, take, true, zero, zero-add, ℕ}
pub use Rattle.std.proofs.Math.Seq.{drop-append_seam}
pub use Rattle.std.proofs.lemmas.Bool.{and_from, and_parts, both_ways, cases_eq, cond_both, eqb-true, false≢true, ltb-false, ltb-true, true≢false}
pub use Rattle.std.proofs.lemmas.Bool.Decides.{nat_tests, same_from_decides}
pub use Rattle.std.proofs.lemmas.Grind.{common_steps}
pub use Rattle.std.proofs.lemmas.List.{drop_all, drop_more, ext_get_or, get_or-map, set_past, get_or-set_other, get_or-set_same, length-map, length-set, map-append, map-set, map_more}
pub use Rattle.std.proofs.lemmas.List.{reverse-append, reverse-reverse, take-append-drop, take_all, with_items_is}
pub use Rattle.std.proofs.lemmas.List.Elements.{All-append, All-cons, All-head, All-map, All-nil, All-tail, All-weaker, filter_more}
pub use Rattle.std.proofs.lemmas.List.Folds.{flat_map-map, list_all-map}
pub use Rattle.std.proofs.lemmas.List.FromFn.{get_or-enumerate_from, length-enumerate_from}
pub use Rattle.std.proofs.lemmas.List.Sorted.{IsNonDecreasingBy-from_default, IsPermutation-refl, answers_always}
pub use Rattle.std.proofs.lemmas.List.Sums.{sum_by-cons, sum_by_more, sum_by_more_le_part}
pub use Rattle.std.proofs.lemmas.Option.{none-some, same_Some, some_pair_parts}
pub use Rattle.std.proofs.lemmas.Result.{IfErr-weaker, IfOk-weaker, err_from_is_err_and}
pub use Rattle.std.specs.Bool.{then_some}
pub use Rattle.std.specs.Cmp.{first_so, second_so}
pub use Rattle.std.specs.List.{AllByRecursion, cons_option, enumerate_from, filter, list_all, list_any, sum_by}
pub use Rattle.std.specs.List.Sorted.{IsBinarySearchResult, IsNonDecreasingBy, IsStrictlyIncreasing}
pub use Rattle.std.specs.Option.{option_map_or}
pub use Rattle.std.specs.Ordering.{ordering_index}
pub use Rattle.std.specs.Prelude.{◌&&◌, ◌==◌, ◌||◌, ◌↔◌, All, Contains, IfErr, IfOk, IsSome, count_by, filter_map, find, fold, is_none, is_some, nat_le, nat_lt, not, option_and_then}
pub use Rattle.std.specs.Prelude.{replicate, reverse, slice_get, slice_index_or, slice_set, unwrap_or}
pub use Rattle.std.specs.Str.{bytes_eq}
pub use Rattle.std.specs.Vec.{vec_capacity, vec_len, with_items}
pub use Rattle.std.specs.declared.alloc.Global.{Global}
pub use Rattle.std.specs.declared.vec.Vec.{Vec}
pub use Rattle.mv_move_types.specs.AbilitySets.{leaf_abilities, no_abilities, reference_abilities, same_abilities}
pub use Rattle.mv_move_types.specs.Module.{FunctionDefinition, Module, StructDefinition, module_name, name_at, name_of_struct, own_name, parameter_tokens, struct_abilities, struct_name}
pub use Rattle.mv_move_types.specs.Named.{declared, declared_in, definition_of, function_place, have_one_name, is_module, is_struct, module_named, module_place}
pub use Rattle.mv_move_types.specs.Names.{ModuleName, StructName, same_module, same_struct}
pub use Rattle.mv_move_types.specs.Options.{◌>>=◌, find_index}
pub use Rattle.mv_move_types.specs.Published.{PublishedModule, has_name_of, with_module, with_modules}
pub use Rattle.mv_move_types.specs.Refusals.{IsRefusedBy}
pub use Rattle.mv_move_types.specs.Results.{for_each}
pub use Rattle.mv_move_types.specs.Scarce.{is_scarce_struct, is_scarce_at, is_scarce_in}
pub use Rattle.mv_move_types.specs.Tags.{LeafTag, ReferenceTag, StructTag, Tag, same_tag}
pub use Rattle.mv_move_types.specs.Tokens.{same_kind, width_bits}
pub use Rattle.mv_move_types.specs.declared.instruction.Instruction.TheVariants.{CopyLoc, ImmBorrowGlobal, ImmBorrowLoc, MoveFrom, MoveLoc, MoveTo, Pack, Pop, Ret, StLoc, Unpack}
pub use Rattle.mv_move_types.specs.declared.refusal.Refusal.{Refusal}
pub use Rattle.mv_move_types.specs.declared.refusal.Refusal.TheVariants.{Memory, Phase}
pub use Rattle.mv_move_types.specs.declared.tables.Definition.{Definition}
pub use Rattle.mv_move_types.specs.declared.tables.Field.{Field}
pub use Rattle.mv_move_types.specs.declared.tables.Key.{Key}
pub use Rattle.mv_move_types.specs.declared.tables.StructHandle.{StructHandle}
pub use Rattle.mv_move_types.specs.declared.tables.Visibility.TheVariants.{Public}
pub use Rattle.mv_move_types.specs.declared.token.Abilities.{Abilities}
pub use Rattle.mv_move_types.specs.declared.token.LeafKind.{LeafKind}
pub use Rattle.mv_move_types.specs.declared.token.LeafKind.TheVariants.{Address, Boolean, Number, Signer}
pub use Rattle.mv_move_types.specs.declared.token.Token.{Token}
pub use Rattle.mv_move_types.specs.declared.token.Token.TheVariants.{MutableReference, MutableReference as MutableReferenceTo, Plain, Reference, Reference as ReferenceTo}
pub use Rattle.mv_move_types.specs.declared.token.ValueType.{ValueType}
pub use Rattle.mv_move_types.specs.declared.token.ValueType.TheVariants.{OfLeaf, OfStruct}
pub use Rattle.mv_move_types.specs.declared.token.Width.TheVariants.{U128, U16, U32, U64, U8}
pub use Rattle.mv_uleb.specs.Parsing.{number_from}
pub use Rattle.mv_uleb.specs.Uleb.{uleb}
pub use Rattle.mv_binary_format.specs.Laws.{IsReadByText}
pub use Rattle.mv_binary_format.specs.ModuleText.{HasText, IsModuleText, headers_from, ordered_text, tables}
pub use Rattle.mv_binary_format.specs.Parsing.{module_of}
pub use Rattle.mv_bound_rules.specs.Bounds.{InBounds, below, field_in, struct_handle_in, struct_in}
pub use Rattle.mv_bound_rules.specs.Definitions.{Holds, WellDefined, all_differ, defined_by, directly, further}
pub use Rattle.mv_signatures.specs.Signatures.{WellSigned, are_entry_parameters, entry_fits, has_no_results}
pub use Rattle.mv_cfg.specs.Blocks.{BasicBlock, FlowHolds, IsReached, at_start, blocks}
pub use Rattle.mv_acquires.specs.Acquires.{AcquiresHold}
pub use Rattle.mv_abilities.specs.Abilities.{AbilitiesHold, field_is_able, implies, struct_is_able, token_abilities, value_type_abilities}
pub use Rattle.mv_type_rules.specs.Sound.{FailsTypes, IsSound, endless, ill_signed, ill_typed, unable}
pub use Rattle.mv_module_text.proofs.Addresses.{address-parts, address-whole}
pub use Rattle.mv_module_text.proofs.Entries.{ReadsOn, ReadsOn-next, ReadsOn-stops}
pub use Rattle.mv_module_text.proofs.Numbers.{number_of-front, number_of-whole}
pub use Rattle.mv_module_text.proofs.Texts.{Front, Front-as, Front-join, Parts, Whole, byte-front, bytes-front, bytes-whole, bytes_after, counted-parts, counted-whole, number-front}
pub use Rattle.mv_module_text.proofs.Texts.{number-whole, on_bind}
pub use Rattle.mv_module_text.specs.Entries.{address_text, counted, identifier_text, leaf_token}
pub use Rattle.mv_module_text.specs.Fits.{address_fits, identifier_fits, is_byte}
pub use Rattle.mv_module_text.specs.Laws.{AreBytes}
pub use Rattle.mv_module_text.specs.Parsing.{Read, address_from, byte_from, bytes_from, counted_from, entries_from, identifier_from, kind_of}
pub use Rattle.mv_module_text.specs.Reads.{Reads}
pub use Rattle.mv_frames.specs.Counters.{AtMost, is_tally_at}
pub use Rattle.mv_machine.specs.declared.StructTally.{StructTally}
pub use Rattle.mv_storage.proofs.Keys.{before-apart, before-trans, same_key-refl, same_key-to}
pub use Rattle.mv_machine.proofs.Binds.{WhereOk, WhereSome, entry-is, map-is, on_some, place-written, then-is}
pub use Rattle.mv_machine.proofs.Coin.{coin, coin_module, mint, one_coin}
pub use Rattle.mv_machine.proofs.Effects.{Appears, Called, Effect, Ends, Left, MovedFrom, MovedLocal, MovedTo, Packed, Restacked, Resumed, Stands, StoredLocal, Unpacked, Went, Written}
pub use Rattle.mv_machine.proofs.Effects.{a_copy, arrived, at_place, in_local}
pub use Rattle.mv_machine.proofs.Laws.{on_need, on_ok, own_struct-own, steps_taken, turns-bound}
pub use Rattle.mv_machine.proofs.Runs.{begun, run-keeps, step-stepped}
pub use Rattle.mv_machine.proofs.Empty.{empty_ledger}
pub use Rattle.mv_machine.specs.Count.{count, count_in, count_in_fields}
pub use Rattle.mv_machine.specs.Flat.{FlatEntry, fields_from, storage_of, struct_from, value_from, value_under}
pub use Rattle.mv_machine.specs.Ledger.{Answers, Audit, Bad, BadRun, LedgerState, Offer, Publish, Request, Run, RunRequest, Show, admitted, are_arguments, attempted, is_argument, modules_of}
pub use Rattle.mv_machine.specs.Ledger.{scarce_name, scarce_structs, applied, tally_of, tally_with, untouched_tally, with_bundle, with_returned, with_run, with_signer}
pub use Rattle.mv_machine.specs.Lines.{Published, Refused, Reply, Tallied}
pub use Rattle.mv_machine.specs.Returns.{AtReturn}
pub use Rattle.mv_machine.specs.Run.{Aborted, Exhausted, Faulted, FunctionCall, Returned, RunOutcome, first_state, outcome_from, packs, run, turns, unpacks}
pub use Rattle.mv_machine.specs.State.{Event, Frame, State, Storage, frames, key_before, local_in, local_value, place_value, root_value, same_key, stored_at, with_local, with_place}
pub use Rattle.mv_machine.specs.State.{with_root, with_stored, without_stored}
pub use Rattle.mv_machine.specs.Step.{Goes, Here, OwnStruct, Returns, Turn, may_drop, with_stack}
pub use Rattle.mv_machine.specs.Typed.{abilities_at, are_of_types, is_fine_entry, is_fine_storage, is_of_struct, is_of_type, leaf_fits}
pub use Rattle.mv_machine.specs.Typing.{Aborts, Failure, Faults, abilities_of, entry, has_tag, have_tags, plain_tag, tag_named, tag_of, value_type_tag}
pub use Rattle.mv_machine.specs.Value.{Leaf, Local, More, NoMore, Place, Ref, Root, Stored, Struct, Value, Values, field, field_of, fields_of, list_of, value_at, with_field, with_field_of}
pub use Rattle.mv_machine.specs.Value.{with_value_at}
pub use Rattle.mv_certificate.proofs.Marks.{all-bytes}
pub use Rattle.mv_certificate_rules.specs.Certificate.{Certificate, Known, all_edges_hold, all_locals_hold}
pub use Rattle.mv_certificate_rules.specs.CertificateText.{IsCertificateText, certificate_text}
pub use Rattle.mv_bound_rules.proofs.Found.{some-of, then_found}
pub use Rattle.mv_linker.proofs.Joining.Upgraded.{same_abilities-is}
pub use Rattle.mv_bound_rules.proofs.NameLemmas.{is_module-is, same_module-is, same_module-same, same_struct-is, same_struct-same}
pub use Rattle.mv_interface.proofs.OwnDefinitions.{module_there}
pub use Rattle.mv_link_rules.proofs.TagTests.{same_tag-is}
pub use Rattle.mv_link_rules.specs.Link.{IsPublishable, IsStore, MayJoin, are_compatible, tables_in}
pub use Rattle.mv_linker.specs.News.{AreTexts, HasItsTexts, published_of, published_one}
pub use Rattle.mv_link_rules.specs.StoreRules.{Reaches, depends_on, directly as depends_at_once, further as depends_further, struct_is_there, structs_are_there}
pub use Rattle.mv_linker.specs.Stored.{with_at}
pub use Rattle.mv_link_rules.specs.Upgrades.{function_stays, may_replace, same_field, same_fields, same_struct_definition, structs_stay}
pub use Rattle.mv_linker.specs.declared.New.{New}
pub use Rattle.mv_soundness.proofs.Guided.Published.{certificates_from, published_certified, runs_faultless}
pub use Rattle.mv_soundness.proofs.Homes.{index_of, own_of_store}
pub use Rattle.mv_soundness.proofs.Lists.{All-at}
pub use Rattle.mv_soundness.proofs.Typing.Admitted.{Ranged, admitted_typed}
pub use Rattle.mv_soundness.proofs.Typing.Callees.{on_found}
pub use Rattle.mv_soundness.proofs.Typing.Fine.{fine_storage, leaf_ranges, typed_is_fine}
pub use Rattle.mv_machine.specs.Tallies.{nameless, all_of, lists_of, tallied}
pub use Rattle.mv_soundness.proofs.Owned.{IsOwn}
pub use Rattle.mv_machine.specs.Arguments.{arg_value, number_fits}
pub use Rattle.mv_soundness.specs.Words.{IsFineWords}
pub use Rattle.mv_soundness.specs.Typing.Accepted.{StoreAccepted}
pub use Rattle.mv_soundness.specs.Typing.StateTyped.{Numbered, StorageTyped}
pub use Rattle.mv_machine.specs.declared.Arg.{Arg, Arg as Argument}
pub use Rattle.mv_ledger_state.specs.Accepted.Records.{IsVetted}
pub use Rattle.mv_ledger_state.specs.Accepted.SoundLedger.{IsSoundLedger}
pub use Rattle.mv_ledger_state.specs.Asking.{offer_of, offers_of, request_of}
pub use Rattle.mv_ledger_state.specs.Counting.Conservation.{Conserves, IsEntryCall, IsFineStorage, IsLeaf}
pub use Rattle.mv_ledger_state.specs.Counting.Fine.{IsAbleStore}
pub use Rattle.mv_ledger_state.specs.Counting.Headline.{CallEndsWell, EndsWell, EveryCountIsTallied, IsOwnWork, RunsWell}
pub use Rattle.mv_ledger_state.proofs.Counting.Fine.{Balances, FrameIsKept, FramesAreKept, IsFine, LocalIsKept, LocalsAreKept, StackIsKept}
pub use Rattle.mv_ledger_state.proofs.Counting.Held.{held, held_in_frame, held_in_frames, held_in_local, held_in_locals, held_in_stack, made, unmade}
pub use Rattle.mv_ledger_state.specs.Counting.Kept.{Allows, AreAbove, AreKept, IsAscending, IsKept, IsScarce, StorageIsKept}
pub use Rattle.mv_ledger_state.specs.Exact.{IsAccepted, IsRefused, failing, no_bundle}
pub use Rattle.mv_ledger_state.specs.Judging.{IsAcceptedBy, IsKeptOut, IsRefusedOver, MayFollow}
pub use Rattle.mv_ledger_state.specs.Payloads.{argument_from, bundle_from, leaf_from, offer_from, offers_from, run_from, sized_from}
pub use Rattle.mv_ledger_state.specs.Publishing.{AllPass, FailsAmong, FailsAt, FirstFails, IsPublished, OfCertificate, OfModule, Passes, Spells, in_linking, in_offer}
pub use Rattle.mv_ledger_state.specs.Publishing.{in_room, offered, phases}
pub use Rattle.mv_ledger_state.specs.RecordText.{IsShaped, IsShapeless, argument_fits, argument_text, leaf_bytes, offer_fits, offer_text, publish_fits, publish_text, run_fits, run_text}
pub use Rattle.mv_ledger_state.specs.RecordText.{sized}
pub use Rattle.mv_ledger_state.specs.Tallying.{AddsTallies, AreInOrder, ArePlacedFor, HasRoomFor, HasRoomLeft, IsRoomFor, fresh_tally, is_published, place_for, tallies_at, tally_after}
pub use Rattle.mv_ledger_state.proofs.TallyWords.{IsNamed}
pub use Rattle.mv_ledger_state.specs.Joining.{AreWithin, with_placed}
pub use Rattle.mv_ledger_state.specs.View.{ArePlaced, AreScarce, AreSized, CanCount, HeldModules, IsSmall, IsTalliedStore, PublishedView, held_now, scarce_indices}
pub use Rattle.mv_ledger_state.specs.declared.payload.Offered.{Offered}
pub use Rattle.mv_ledger_state.specs.declared.tallies.Placed.{Placed}
pub use Rattle.mv_machine.specs.declared.Tally.{Tally}
pub use Rattle.mv_uleb.proofs.Spelled.{then_some-parts}
pub use Rattle.mv_bound_rules.proofs.Entries.{all_at, there_below, mapped-at}
pub use Rattle.mv_bound_rules.proofs.Tokens.{kinds_equal}
