-- What the proofs of this crate speak of all along: words and lemmas of std, names and types of modules, and specs of this crate.
pub use Rattle.std.proofs.Common.{[], ℕ, ◌&&◌, ◌*◌, ◌++◌, ◌+◌, ◌<◌, ◌==◌, ◌^◌, ◌↔◌, ◌∙◌, ◌∷◌, ◌≡◌, ◌≤◌, Bool, Bor, Contains, Global, IfSome, List, None, Option, Result, Some, Vec, ap, ap₂}
pub use Rattle.std.proofs.Common.{arith, bytes_eq, cond, count_by, drop, eq-eqb, eqb, false, get_or, get_or-set_other, get_or-set_same, inl, inr, length, length-append, length-set, map}
pub use Rattle.std.proofs.Common.{nat_lt, ne_eqb, not, refl, replicate, set, subst, suc, sym, take, true, zero}
pub use Rattle.std.proofs.lemmas.Bool.{and_from, and_parts, cases_eq, cases_lt, eqb-true, false≢true, lt-ltb, ltb-true}
pub use Rattle.std.proofs.lemmas.List.{get_or_read, length-map, length-take-le, take_all, take_at, take_more}
pub use Rattle.std.proofs.lemmas.List.Folds.{list_all-append}
pub use Rattle.std.proofs.lemmas.Option.{none-some, same_Some, slice_get-map, slice_get_read, slice_get_within, unwrap_or-slice_get}
pub use Rattle.std.proofs.lemmas.Result.{IfOk-weaker}
pub use Rattle.std.specs.Cmp.Lexicographic.{pointwise}
pub use Rattle.std.specs.List.{list_all, slice_get}
pub use Rattle.std.specs.Option.{option_map}
pub use Rattle.std.specs.Result.{IfOk}
pub use Rattle.mv_move_types.specs.Module.{Constant, FunctionDefinition, Module, StructDefinition}
pub use Rattle.mv_move_types.specs.Options.{find_index}
pub use Rattle.mv_move_types.specs.Tokens.{same_tokens}
pub use Rattle.mv_move_types.specs.declared.tables.Field.{Field}
pub use Rattle.mv_move_types.specs.declared.tables.FunctionHandle.{FunctionHandle}
pub use Rattle.mv_move_types.specs.declared.tables.StructHandle.{StructHandle}
pub use Rattle.mv_move_types.specs.declared.token.Token.{Token}
pub use Rattle.mv_move_types.specs.declared.token.Token.TheVariants.{MutableReference, Plain, Reference}
pub use Rattle.mv_move_types.specs.declared.token.ValueType.TheVariants.{OfLeaf, OfStruct}
pub use Rattle.mv_bound_rules.specs.Bounds.{InBounds, function_in, token_in}
pub use Rattle.mv_bounds.specs.Codes.{token_code}
pub use Rattle.mv_bounds.specs.Containment.{places_of}
pub use Rattle.mv_bounds.specs.Cycles.{IsAcyclic, LeadsTo, directly, further}
pub use Rattle.mv_bound_rules.specs.Definitions.{Holds, all_differ, defined_once}
pub use Rattle.mv_bound_rules.specs.Functions.{IsDefined}
pub use Rattle.mv_bound_rules.specs.Places.{ArePlaces}
pub use Rattle.mv_bounds.specs.Removal.{Released, are_nodes, edges_to}
pub use Rattle.mv_bound_rules.specs.Times.{as_number, is_zero, times}
