-- What the proofs of this crate speak of all along: words and lemmas of std, names and types of modules, and specs of this crate.
pub use Rattle.std.proofs.Common.{[], ℕ, ◌&&◌, ◌++◌, ◌+◌, ◌<◌, ◌==◌, ◌∙◌, ◌∷◌, ◌≡◌, ◌≤◌, Bool, Bor, Contains, Global, IfSome, List, None, Option, Some, Vec, ap, ap₂, eqb, unwrap_or}
pub use Rattle.std.proofs.Common.{arith, cond, drop, eq-eqb, false, get_or, get_or-set_other, get_or-set_same, inl, inr, length, length-append, length-set, map}
pub use Rattle.std.proofs.Common.{ne_eqb, not, refl, set, subst, suc, sym, take, true, zero}
pub use Rattle.std.proofs.lemmas.Bool.{and_parts, cases_eq, cases_lt, eqb-true, false≢true, ltb-true, and_from, both_ways, cases_Bool, cases_order, not-true, or_cases, or_left, or_right}
pub use Rattle.std.proofs.lemmas.List.{get_or_read, length-take-le, take_all, take_more}
pub use Rattle.std.proofs.lemmas.Option.{none-some, same_Some, slice_get_read, slice_get_within, unwrap_or-slice_get, get_or_from_slice_get, slice_get-get_or, slice_get_past}
pub use Rattle.std.specs.List.{list_all, slice_get, cons_option, filter_map, list_any}
pub use Rattle.std.specs.Option.{option_map, IsSome, option_copied, option_map_or}
pub use Rattle.mv_move_types.specs.Module.{FunctionDefinition, Module, StructDefinition, module_name, name_at, name_of_struct, own_name, struct_name}
pub use Rattle.mv_move_types.specs.Options.{find_index, ◌>>=◌}
pub use Rattle.mv_move_types.specs.declared.tables.FunctionHandle.{FunctionHandle}
pub use Rattle.mv_move_types.specs.declared.token.Token.{Token}
pub use Rattle.mv_bound_rules.specs.Bounds.{InBounds, function_in}
pub use Rattle.mv_bound_rules.specs.Functions.{IsDefined}
pub use Rattle.mv_bound_rules.specs.Places.{ArePlaces}
pub use Rattle.mv_bound_rules.specs.Times.{as_number, is_zero, times}
pub use Rattle.std.proofs.lemmas.List.Elements.{All-contains}
pub use Rattle.std.proofs.lemmas.Slice.Eq.{bytes_eq-Decides}
pub use Rattle.std.specs.Cmp.{first_so, second_so}
pub use Rattle.std.specs.Prelude.{All, filter, position}
pub use Rattle.std.specs.Slice.{IsItemAt}
pub use Rattle.std.specs.Str.{bytes_eq}
pub use Rattle.mv_move_types.specs.Named.{have_one_name, is_module, module_place}
pub use Rattle.mv_move_types.specs.Names.{ModuleName, StructName, same_module, same_struct}
pub use Rattle.mv_move_types.specs.declared.tables.ModuleHandle.{ModuleHandle}
pub use Rattle.mv_move_types.specs.declared.tables.StructHandle.{StructHandle}
pub use Rattle.mv_bound_rules.specs.Definitions.{all_differ}
pub use Rattle.mv_binary_format.proofs.Binds.{bind_some as on_bind}
pub use Rattle.mv_move_types.specs.Tokens.{same_token, same_tokens, same_value_type}
pub use Rattle.mv_move_types.specs.declared.token.LeafKind.TheVariants.{Signer}
pub use Rattle.mv_move_types.specs.declared.token.Token.TheVariants.{MutableReference, Plain, Reference}
pub use Rattle.mv_move_types.specs.declared.token.ValueType.{ValueType}
pub use Rattle.mv_move_types.specs.declared.token.ValueType.TheVariants.{OfLeaf, OfStruct}
pub use Rattle.mv_move_types.specs.declared.token.Width.TheVariants.{U64, U8}
