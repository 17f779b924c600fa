-- What the proofs of this crate speak of all along: words and lemmas of std, names and types of modules, and specs of this crate.
pub use Rattle.std.proofs.Common.{[], ℕ, ◌&&◌, ◌++◌, ◌+◌, ◌-◌, ◌<◌, ◌==◌, ◌^◌, ◌||◌, ◌∙◌, ◌∷◌, ◌≡◌, ◌≤◌, Bool, Err, IfOk, IsTrue, List, None, Ok, Option, Result, Some, ap, append_assoc}
pub use Rattle.std.proofs.Common.{arith, cond, false, get_or, inl, inr, length, length-append, lit<, nat_le, nat_lt, not, option_map, refl, subst, suc, sym, take, true, zero}
pub use Rattle.std.proofs.lemmas.Bool.{and_from, and_parts, cases_Bool, cases_lt, eq-eqb, eqb-true, le-leb, leb-true, lt-ltb, ltb-false}
pub use Rattle.std.proofs.lemmas.Grind.{common_steps}
pub use Rattle.std.proofs.lemmas.List.{append-nil, map_push}
pub use Rattle.std.proofs.lemmas.List.Sorted.{IsPermutation-cons, IsPermutation-refl, IsPermutation-trans, sum_by-IsPermutation}
pub use Rattle.std.proofs.lemmas.List.Sums.{sum_by-cons}
pub use Rattle.std.proofs.lemmas.Option.{none-some, same_Some, some_pair_parts}
pub use Rattle.std.specs.Bool.{then_some}
pub use Rattle.std.specs.Int.{to_le_bytes, w32}
pub use Rattle.std.specs.List.{filter, find, flat_map, list_all, list_any, position, sum_by}
pub use Rattle.std.specs.List.Sorted.{IsPermutation}
pub use Rattle.mv_move_types.specs.Module.{Module}
pub use Rattle.mv_move_types.specs.Options.{◌>>=◌}
pub use Rattle.mv_move_types.specs.Versions.{version_number}
pub use Rattle.mv_move_types.specs.declared.refusal.Refusal.TheVariants.{Phase}
pub use Rattle.mv_uleb.specs.Laws.{StandsByForm}
pub use Rattle.mv_uleb.specs.Parsing.{number_from}
unfoldable pub use Rattle.mv_uleb.specs.Uleb.{uleb}
pub use Rattle.mv_module_text.specs.Entries.{address_text, constant_text, counted, field_handle_text, function_definition_text, function_handle_text, identifier_text, module_handle_text}
pub use Rattle.mv_module_text.specs.Entries.{signature_text, struct_definition_text, struct_handle_text}
pub use Rattle.mv_module_text.specs.Fits.{address_fits, constant_fits, field_handle_fits, function_definition_fits, function_handle_fits, identifier_fits, is_byte, module_handle_fits}
pub use Rattle.mv_module_text.specs.Fits.{signature_fits, struct_definition_fits, struct_handle_fits}
pub use Rattle.mv_module_text.specs.Laws.{AreBytes, OfEachTable, StandAsTexts}
pub use Rattle.mv_module_text.specs.Parsing.{Read, address_from, all_from, bytes_from, constant_from, counted_from, entries_from, field_handle_from, function_definition_from}
pub use Rattle.mv_module_text.specs.Parsing.{function_handle_from, identifier_from, index_from, module_handle_from, signature_from, struct_definition_from, struct_handle_from}
pub use Rattle.mv_binary_format.specs.Kinds.{header_of, headers_of, table_code}
pub use Rattle.mv_binary_format.specs.ModuleText.{HasText, Header, IsModuleText, Table, header_text, headers_from, ordered_text, table, tables, all_tables}
pub use Rattle.mv_binary_format.specs.Parsing.{begins_at, content_of, is_of, kinds, magic, marks_from, version_from, without}
unfoldable pub use Rattle.mv_binary_format.specs.Parsing.{contents_from, entries_of, header_from, module_from, module_of}
pub use Rattle.mv_binary_format.specs.Tables.{table_of, tables_of}
pub use Rattle.mv_binary_format.specs.Written.{AreOf, written_headers}
