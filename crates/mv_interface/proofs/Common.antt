-- What the proofs of this crate speak of all along: words and lemmas of std, names and types of modules, bounds of modules, and specs of this
-- crate.
pub use Rattle.std.proofs.Common.{[], ℕ, ◌++◌, ◌+◌, ◌-◌, ◌<◌, ◌∙◌, ◌∷◌, ◌≡◌, ◌≤◌, Bool, Bor, Global}
pub use Rattle.std.proofs.Common.{List, None, Option, Some, Vec, ap, append-nil, append_assoc, ap₂, arith, cond, drop, eqb, false, get_or, inl, inr}
pub use Rattle.std.proofs.Common.{length, length-append, map, option_map, refl, slice_get, subst, suc, sym, take, true, unwrap_or, vec_len, zero}
pub use Rattle.std.proofs.lemmas.Bool.{and_from, and_parts, both_ways, cases_Bool, cases_cond, cases_eq, cases_lt, cases_order, eq-eqb, eqb-true, le-leb}
pub use Rattle.std.proofs.lemmas.Bool.{leb-true, ltb-true, not-true, or_cases, or_left, or_right}
pub use Rattle.std.proofs.lemmas.Bool.Decides.{nat_tests}
pub use Rattle.std.proofs.lemmas.List.{length-map, length_push, map-append, nil_from_length, take-append-le, take_all, take_more}
pub use Rattle.std.proofs.lemmas.List.Elements.{All-contains}
pub use Rattle.std.proofs.lemmas.Option.{get_or_from_slice_get, none-some, same_Some, slice_get-get_or, slice_get-map, slice_get_past}
pub use Rattle.std.proofs.lemmas.Option.{slice_get_read, slice_get_within}
pub use Rattle.std.proofs.lemmas.Result.{IfOk-weaker}
pub use Rattle.std.proofs.lemmas.Simd.{map-map}
pub use Rattle.std.proofs.lemmas.Slice.Eq.{bytes_eq-Decides}
pub use Rattle.std.specs.Cmp.{first_so, second_so}
pub use Rattle.std.specs.List.{cons_option, filter_map, list_all, list_any}
pub use Rattle.std.specs.Option.{IsSome, option_copied, option_map_or}
pub use Rattle.std.specs.Prelude.{◌&&◌, ◌==◌, All, IfSome, count_by, filter, is_some, nat_le, not, option_and_then, position}
pub use Rattle.std.specs.Slice.{IsItemAt}
pub use Rattle.std.specs.Str.{bytes_eq}
pub use Rattle.mv_move_types.specs.Module.{FunctionDefinition, Module, StructDefinition, module_name, name_at, name_of_function, name_of_struct, own_name}
pub use Rattle.mv_move_types.specs.Module.{parameter_tokens, struct_name}
pub use Rattle.mv_move_types.specs.Named.{definition_of, function_place, have_one_name, is_module, is_struct, module_named, module_place}
pub use Rattle.mv_move_types.specs.Names.{ModuleName, StructName, same_module, same_struct}
pub use Rattle.mv_move_types.specs.Options.{◌>>=◌, find_index}
pub use Rattle.mv_move_types.specs.Tags.{Tag, same_tag, same_tags}
pub use Rattle.mv_move_types.specs.declared.tables.Definition.{Definition}
pub use Rattle.mv_move_types.specs.declared.tables.Field.{Field}
pub use Rattle.mv_move_types.specs.declared.tables.FunctionHandle.{FunctionHandle}
pub use Rattle.mv_move_types.specs.declared.tables.ModuleHandle.{ModuleHandle}
pub use Rattle.mv_move_types.specs.declared.tables.StructHandle.{StructHandle}
pub use Rattle.mv_move_types.specs.declared.token.LeafKind.TheVariants.{Boolean}
pub use Rattle.mv_move_types.specs.declared.token.Token.{Token}
pub use Rattle.mv_move_types.specs.declared.token.Token.TheVariants.{MutableReference, Plain, Reference}
pub use Rattle.mv_move_types.specs.declared.token.ValueType.TheVariants.{OfLeaf, OfStruct}
pub use Rattle.mv_binary_format.specs.ModuleText.{HasText}
pub use Rattle.mv_bound_rules.specs.Bounds.{InBounds, below, field_in, function_handle_in, module_handle_in, struct_handle_in, struct_in}
pub use Rattle.mv_bound_rules.specs.Definitions.{WellDefined, all_differ, defined_once, function_home, struct_home}
pub use Rattle.mv_module_text.proofs.Texts.{on_bind}
pub use Rattle.mv_module_text.specs.Fits.{identifier_fits, is_identifier, struct_definition_fits}
pub use Rattle.mv_interface.specs.Handles.{AreStructsAt}
pub use Rattle.mv_interface.specs.Interface.{AreTypes, AreTypesOf, IsInterface, IsSignatureAt, IsSignatureOf, IsType, type_by, types_by}
pub use Rattle.mv_interface.specs.Outline.{AreEach, AreFieldNames, FunctionOutline, IsFunctionOutline, IsOutline, IsStructOutline, OutlineView}
pub use Rattle.mv_interface.specs.Outline.{function_by, function_kept, identifier_at, names_by, outline_kept, struct_by, struct_kept}
pub use Rattle.mv_interface.specs.Shapes.{AreParts, IsPart, part_by, parts_by}
pub use Rattle.mv_bound_rules.specs.TypesByName.{both_there, same_types, token_named, tokens_named}
pub use Rattle.mv_interface.specs.declared.interface.Interface.{Interface}
pub use Rattle.mv_interface.specs.declared.interface.LinkedType.{LinkedType}
pub use Rattle.mv_interface.specs.declared.interface.Signature.{Signature}
pub use Rattle.mv_interface.specs.declared.lists.Span.{Span}
pub use Rattle.mv_interface.specs.declared.shapes.Part.{Part}
pub use Rattle.mv_interface.specs.declared.shapes.Part.TheVariants.{Nothing, Struct}
