-- What the proofs of this crate speak of all along: words and lemmas of std, names and types of modules, numbers as bytes, texts of entries,
-- the machine's values, the storage, what a ledger holds, and specs of this crate.
pub use Rattle.std.proofs.Common.{[], ⊎_elim, ◌%◌, ◌*◌, ◌++◌, ◌+◌, ◌-◌, ◌/◌, ◌<◌, ◌^◌, ◌∙◌, ◌∷◌, ◌≡◌, ◌≢◌, ◌≤◌, ◌⊎◌, Bool, Err, IsTrue, List, None, Ok, Option, Result, Some, add-one, ap}
pub use Rattle.std.proofs.Common.{append-nil, append_assoc, ap₂, arith, cond, drop, eq-eqb, false, flat_map, get_or, inl, inr, le-leb, leb-true, length, length-append, lt-ltb, map}
pub use Rattle.std.proofs.Common.{option_map, refl, rules, subst, suc, sym, take, true, zero, zero-add, ℕ}
pub use Rattle.std.proofs.Math.Seq.{drop-cons, map-set_same}
pub use Rattle.std.proofs.lemmas.Bool.{and_from, and_parts, both_ways, cases_eq, eqb-true, false≢true, ltb-true, true≢false}
pub use Rattle.std.proofs.lemmas.Grind.{common_steps}
pub use Rattle.std.proofs.lemmas.List.{drop-set-lt, drop_all, drop_more, flat_map_more, get_or-map, get_or-set_other, get_or-set_same, length-map, length-set, length-take-le, map-append}
pub use Rattle.std.proofs.lemmas.List.{map-set, map_more, take_all, take_more, take_more_set, with_items_is}
pub use Rattle.std.proofs.lemmas.List.Concat.{flat_map-append}
pub use Rattle.std.proofs.lemmas.List.Elements.{All-append, All-cons, All-head, All-nil, All-tail, All-weaker, filter-append, filter_more}
pub use Rattle.std.proofs.lemmas.List.Folds.{flat_map-map, list_all-map}
pub use Rattle.std.proofs.lemmas.List.FromFn.{get_or-enumerate_from, length-enumerate_from}
pub use Rattle.std.proofs.lemmas.Option.{get_or_from_slice_get, none-some, same_Some, slice_get-map, slice_get_read, slice_get_within, some_pair_parts, unwrap_or-slice_get}
pub use Rattle.std.proofs.lemmas.Result.{err_from_is_err_and}
pub use Rattle.std.specs.Bool.{then_some}
pub use Rattle.std.specs.Cmp.{first_so, second_so}
pub use Rattle.std.specs.Int.{to_le_bytes, w128}
pub use Rattle.std.specs.List.{AllByRecursion, enumerate_from, filter, list_all, list_any}
pub use Rattle.std.specs.Option.{option_map_or}
pub use Rattle.std.specs.Prelude.{◌&&◌, ◌==◌, All, IfOk, IfSome, IsSome, OnOk, is_some, min, nat_le, nat_lt, not, replicate, slice_get, slice_set, unwrap_or}
pub use Rattle.std.specs.Str.{bytes_eq}
pub use Rattle.std.specs.Vec.{with_items}
pub use Rattle.std.specs.declared.alloc.Global.{Global}
pub use Rattle.std.specs.declared.vec.Vec.{Vec}
pub use Rattle.mv_move_types.specs.Leaves.{leaves_of, leaves_within, sum_of_fields}
pub use Rattle.mv_move_types.specs.Module.{Module, StructDefinition, name_at, name_of_struct, struct_abilities, struct_name}
pub use Rattle.mv_move_types.specs.Named.{definition_of}
pub use Rattle.mv_move_types.specs.Names.{StructName, same_struct}
pub use Rattle.mv_move_types.specs.Options.{◌>>=◌}
pub use Rattle.mv_move_types.specs.Published.{PublishedModule, with_module, with_modules}
pub use Rattle.mv_move_types.specs.Tokens.{same_kind, width_bits}
pub use Rattle.mv_move_types.specs.declared.refusal.Refusal.{Refusal}
pub use Rattle.mv_move_types.specs.declared.refusal.Refusal.TheVariants.{Memory, Phase}
pub use Rattle.mv_move_types.specs.declared.tables.Definition.{Definition}
pub use Rattle.mv_move_types.specs.declared.tables.Field.{Field}
pub use Rattle.mv_move_types.specs.declared.tables.Key.{Key}
pub use Rattle.mv_move_types.specs.declared.token.Abilities.{Abilities}
pub use Rattle.mv_move_types.specs.declared.token.LeafKind.{LeafKind}
pub use Rattle.mv_move_types.specs.declared.token.LeafKind.TheVariants.{Address, Boolean, Number, Signer}
pub use Rattle.mv_move_types.specs.declared.token.Token.{Token}
pub use Rattle.mv_move_types.specs.declared.token.Token.TheVariants.{MutableReference, Plain, Reference}
pub use Rattle.mv_move_types.specs.declared.token.ValueType.TheVariants.{OfLeaf, OfStruct}
pub use Rattle.mv_move_types.specs.declared.token.Width.TheVariants.{U128}
pub use Rattle.mv_uleb.specs.Parsing.{number_from}
pub use Rattle.mv_uleb.specs.Uleb.{uleb, uleb_in}
pub use Rattle.mv_binary_format.proofs.Fitting.{few_structs}
pub use Rattle.mv_binary_format.specs.Laws.{IsReadByText}
pub use Rattle.mv_binary_format.specs.ModuleText.{HasText}
pub use Rattle.mv_bound_rules.specs.Definitions.{all_differ}
pub use Rattle.mv_module_text.proofs.Addresses.{address-parts, address-whole}
pub use Rattle.mv_module_text.proofs.Entries.{ReadsOn, ReadsOn-next, after}
pub use Rattle.mv_module_text.proofs.Numbers.{number_of-front, number_of-whole}
pub use Rattle.mv_module_text.proofs.Texts.{Front, Front-as, Front-from, Front-join, Parts, Whole, byte-front, counted-parts, counted-whole, entries-front, entries-whole, index-parts}
pub use Rattle.mv_module_text.proofs.Texts.{index-whole, mark-front, number-front, number-whole, on_bind}
pub use Rattle.mv_module_text.specs.Entries.{address_text, counted}
pub use Rattle.mv_module_text.specs.Fits.{address_fits, is_index}
pub use Rattle.mv_module_text.specs.Laws.{AreBytes}
pub use Rattle.mv_module_text.specs.Parsing.{Read, address_from, byte_from, counted_from, entries_from, index_from, mark_from, number_of_from}
pub use Rattle.mv_frames.specs.Counters.{is_same_definition}
pub use Rattle.mv_storage.proofs.Keys.{before-trans, keys_compare, same_key-to}
pub use Rattle.mv_storage.proofs.Maps.{Ascends-with_words, entries_from_words, words_under-same, words_under-with_words}
pub use Rattle.mv_storage.specs.FlatStorage.{FlatStorage, with_words, words_under}
pub use Rattle.mv_storage.specs.Map.{Ascends, IsBelow}
pub use Rattle.mv_machine.proofs.Binds.{map-is}
pub use Rattle.mv_machine.proofs.Coin.{coin_module}
pub use Rattle.mv_machine.proofs.Empty.{empty_ledger}
pub use Rattle.mv_machine.specs.Count.{count, count_in, count_in_fields}
pub use Rattle.mv_machine.specs.Flat.{FlatEntry, fields_from, flat, flat_fields, flat_storage, storage_of, struct_from, value_from, value_under}
pub use Rattle.mv_machine.specs.Ledger.{LedgerState, Offer, modules_of, scarce_structs, with_bundle}
pub use Rattle.mv_machine.specs.Lines.{Tallied}
pub use Rattle.mv_machine.specs.State.{Entry, Storage, key_before, same_key}
pub use Rattle.mv_machine.specs.Typed.{abilities_at, are_of_types, is_fine_entry, is_fine_storage, is_of_struct, is_of_type, leaf_fits}
pub use Rattle.mv_machine.specs.Value.{Leaf, More, NoMore, Ref, Struct, Value, Values}
pub use Rattle.mv_ledger_state.proofs.Common.{all-bytes, index_of, All-at, on_found, fine_storage, typed_is_fine, IsFineWords, StoreAccepted, StorageTyped}
pub use Rattle.mv_ledger_state.proofs.Handed.{fine_words-typed, same_kind-same}
pub use Rattle.mv_certificate_rules.specs.Certificate.{Certificate}
pub use Rattle.mv_bound_rules.proofs.Found.{some-of, then_found}
pub use Rattle.mv_linker.proofs.Kept.HandleDefinitions.{name-found}
pub use Rattle.mv_bound_rules.proofs.NameLemmas.{same_struct-is, same_struct-same}
pub use Rattle.mv_link_rules.specs.Link.{IsPublishable, IsStore, tables_in}
pub use Rattle.mv_linker.specs.News.{AreTexts, HasItsTexts, published_of, published_one}
pub use Rattle.mv_interface.specs.Shapes.{AreFieldsAt, AreParts, IsMadeOf, IsPart, is_keyed as keyed_in, is_of_value, structs_in, has_key}
pub use Rattle.mv_link_rules.specs.StoreRules.{Links, struct_is_small}
pub use Rattle.mv_interface.specs.declared.shapes.Part.{Part}
pub use Rattle.mv_interface.specs.declared.shapes.Part.TheVariants.{Nothing}
pub use Rattle.mv_machine.specs.Tallies.{nameless, all_of, lists_of, tallied}
pub use Rattle.mv_ledger_state.specs.Accepted.SoundLedger.{IsSoundLedger}
pub use Rattle.mv_ledger_state.specs.Asking.{offer_of, offers_of}
pub use Rattle.mv_ledger_state.specs.Counting.Kept.{AreAbove, IsAscending}
pub use Rattle.mv_saved_text.specs.Inside.{structs_in_fields, structs_in_part, structs_in_parts, structs_in_token, structs_under, structs_within}
pub use Rattle.mv_ledger_state.specs.Judging.{IsKeptOut, MayFollow}
pub use Rattle.mv_saved_text.specs.Layouts.{AreLeaves, coded, is_keyed, kinds_of_fields, kinds_of_token, kinds_under, kinds_within, leaf_kinds}
pub use Rattle.mv_saved_text.specs.Loading.{AreLinked, AreTallied, FailsLoad, HasHead, IsLoadRefusal, IsLoaded, no_body, no_head, no_links, no_module, no_tallies}
pub use Rattle.mv_saved_text.specs.Parts.BodyParts.{count_from, counts_of, entry_from, form_of, group_into, groups_into, is_after, leaves_from, rising_into, storage_into, struct_of}
pub use Rattle.mv_saved_text.specs.Parts.BodyParts.{tally_from, with_entry}
pub use Rattle.mv_saved_text.specs.Parts.CountRows.{Adds, AreAll, AreStored, HasRows, IsTallied, capped, count_at, no_counts, row_at, with_count}
pub use Rattle.mv_saved_text.specs.Parts.LayoutParts.{IsOfStore, PutsKinds, keyed_at, kinds_at, kinds_of_part, kinds_of_parts}
pub use Rattle.mv_saved_text.specs.Parts.LoadedParts.{AreCounted, AreNotJoined, BeginsWith, IsNoBody, IsOffered, IsPassed, SavedHead, body_from, form_by, form_from, head_from, head_of}
pub use Rattle.mv_saved_text.specs.Parts.LoadedParts.{marks_from, reason_of}
pub use Rattle.mv_saved_text.proofs.Loads.Bodies.{EachBodyIsRead, EachReadIsBody, IsBody, counted_by}
pub use Rattle.mv_saved_text.specs.Parts.Saving.{AddsValue, AreSections, HasOneMore, IsAdded, IsEmpty, IsSection, IsWritable, KnowsKinds, counts_text, definition_at, section_at, sections_of}
pub use Rattle.mv_saved_text.specs.Parts.Saving.{stored_in, written}
pub use Rattle.mv_ledger_state.specs.Payloads.{leaf_from, offer_from}
pub use Rattle.mv_ledger_state.specs.Publishing.{AllPass, FailsAmong, FailsAt, Passes, Spells, offered}
pub use Rattle.mv_ledger_state.specs.RecordText.{leaf_bytes, offer_fits, offer_text, sized}
pub use Rattle.mv_saved_text.specs.SavedLaws.{EachLedgerHasOneText, EachLoadIsOne, EachLoadIsSaved, EachLoadIsSound, EachSaveIsLoaded, EachSecondFormComesBack, EachTextHasOneLedger}
pub use Rattle.mv_saved_text.specs.SavedLaws.{IsSavable, NoLoadFails}
pub use Rattle.mv_saved_text.specs.SavedText.{First, Form, HeadFits, IsSavedText, Second, addressed_text, body_text, form_byte, greatest_count, head_text, is_under, keyed_from}
pub use Rattle.mv_saved_text.specs.SavedText.{keyed_indices, leaves_of_fields, leaves_text, saved_text, storage_text, stored_text, struct_text, tally_fits, tally_text}
pub use Rattle.mv_ledger_state.proofs.TallyWords.{IsNamed}
pub use Rattle.mv_ledger_state.specs.View.{ArePlaced, AreScarce, IsLedger, IsSmall, IsTalliedStore, LedgerView, PublishedView, scarce_indices, state_of, view_of}
pub use Rattle.mv_saved_text.specs.declared.loading.LoadError.TheVariants.{Body, Link, Link as NoLink, Module as BadModule, Module as NoModule}
pub use Rattle.mv_ledger_state.specs.declared.payload.Offered.{Offered}
pub use Rattle.mv_saved_text.specs.declared.saving.Section.{Section}
pub use Rattle.mv_machine.specs.declared.Tally.{Tally}
pub use Rattle.mv_uleb.proofs.Spelled.{then_some-parts}
pub use Rattle.mv_bound_rules.proofs.Entries.{element_at, all_at}
pub use Rattle.mv_bound_rules.proofs.Tokens.{kinds_equal}
