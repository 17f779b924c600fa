-- What the proofs of this crate speak of all along.
pub use Rattle.std.proofs.Common.{Bool, Bor, Err, List, None, Ok, Option, Result, Some, [], add-one, ap, append-nil, append_assoc, ap₂, arith, codes, cond, decimal, drop, false, flat_map, get_or, inl, inr, length, length-append, map, refl, rules, slice_index, subst, suc, sym, take, true, zero, ℕ, ◌%◌, ◌*◌, ◌++◌, ◌+◌, ◌-◌, ◌/◌, ◌<◌, ◌∙◌, ◌∷◌, ◌≡◌, ◌≢◌, ◌⊎◌}
pub use Rattle.std.proofs.Math.Seq.{drop-cons}
pub use Rattle.std.proofs.lemmas.Bool.{agree_below_at, and_from, and_parts, cases_lt, cond_both, eqb-true, false≢true, true≢false}
pub use Rattle.std.proofs.lemmas.Bool.Decides.{nat_tests}
pub use Rattle.std.proofs.lemmas.List.{map-append, nil_from_length}
pub use Rattle.std.proofs.lemmas.List.Elements.{All-cons, All-head, All-nil, All-tail}
pub use Rattle.std.proofs.lemmas.List.Folds.{list_all-append}
pub use Rattle.std.proofs.lemmas.Option.{same_Some}
pub use Rattle.std.proofs.lemmas.Result.{IfOk-equal, IfOk-weaker}
pub use Rattle.std.specs.Cmp.{first_so, second_so}
pub use Rattle.std.specs.Int.{byte_at, bytes_high_first, to_be_bytes, w128}
pub use Rattle.std.specs.List.{AllByRecursion, cons_option, list_all}
pub use Rattle.std.specs.Option.{option_map_or}
pub use Rattle.std.specs.Prelude.{All, OnOk, filter_map, if◌then◌else◌, is_some, nat_le, nat_lt, not, slice_get, unwrap_or, ◌&&◌, ◌==◌, ◌||◌}
pub use Rattle.std.specs.declared.alloc.Global.{Global}
pub use Rattle.std.specs.declared.vec.Vec.{Vec}
pub use Rattle.mv_move_types.specs.Module.{Module, StructDefinition, module_name, name_at, name_of_struct, struct_name}
pub use Rattle.mv_move_types.specs.Names.{ModuleName, StructName}
pub use Rattle.mv_move_types.specs.Options.{◌>>=◌}
pub use Rattle.mv_move_types.specs.Published.{PublishedModule}
pub use Rattle.mv_move_types.specs.Scarce.{is_scarce_struct}
pub use Rattle.mv_move_types.specs.declared.tables.Definition.{Definition}
pub use Rattle.mv_move_types.specs.declared.tables.Field.{Field}
pub use Rattle.mv_move_types.specs.declared.tables.Key.{Key}
pub use Rattle.mv_move_types.specs.declared.token.LeafKind.{LeafKind}
pub use Rattle.mv_move_types.specs.declared.token.LeafKind.TheVariants.{Address, Boolean, Number, Signer}
pub use Rattle.mv_move_types.specs.declared.token.Token.{Token}
pub use Rattle.mv_move_types.specs.declared.token.Token.TheVariants.{Plain}
pub use Rattle.mv_move_types.specs.declared.token.ValueType.TheVariants.{OfLeaf, OfStruct}
pub use Rattle.mv_binary_format.specs.ModuleText.{HasText}
pub use Rattle.mv_module_text.proofs.Texts.{on_bind}
pub use Rattle.mv_module_text.specs.Fits.{identifier_fits, is_letter, is_name_part}
pub use Rattle.mv_machine.specs.Count.{count}
pub use Rattle.mv_machine.specs.Flat.{FlatEntry, fields_from, storage_of, struct_from, value_from, value_under}
pub use Rattle.mv_machine.specs.Ledger.{AsJson, AsText, Format, LedgerState, audited, modules_of, scarce_name, scarce_structs, shown}
pub use Rattle.mv_machine.specs.Lines.{Tallied, count_line, count_object, end_line, entry_line, entry_object, hex_digit, json_line, key_text, leaf_text, member, object, rest_text, value_text, with_commas}
pub use Rattle.mv_machine.specs.State.{Entry, Storage}
pub use Rattle.mv_machine.specs.Value.{Leaf, Leaf as LeafValue, More, NoMore, Struct, Value, Values}
pub use Rattle.mv_linker.proofs.Kept.HandleDefinitions.{name-found}
pub use Rattle.mv_link_rules.specs.Link.{IsPublishable, IsStore, tables_in}
pub use Rattle.mv_interface.specs.Shapes.{AreFieldsAt, AreParts, IsMadeOf, IsPart, is_of_value}
pub use Rattle.mv_interface.specs.declared.shapes.Part.{Part}
pub use Rattle.mv_interface.specs.declared.shapes.Part.TheVariants.{Leaf as LeafPart, Nothing, Struct as StructPart}
pub use Rattle.mv_machine.specs.Tallies.{all_of, nameless, tallied}
pub use Rattle.mv_lines.specs.Auditing.{counted_in, stored_of}
pub use Rattle.mv_lines.specs.Plain.{IsPlain, is_plain}
pub use Rattle.mv_lines.specs.Showing.{PutsText, fields_text, key_name_text, key_value_text}
pub use Rattle.mv_lines.specs.ValueParts.{Extends, part_from, parts_from}
pub use Rattle.mv_machine.specs.declared.Tally.{Tally}
pub use Rattle.hex.specs.Hex.{encode_lower, lower_digits}
pub use Rattle.mv_bound_rules.proofs.Entries.{all_at}
