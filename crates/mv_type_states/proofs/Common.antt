-- What the proofs of this crate speak of all along: words and lemmas of std, names and types of modules, and specs of this crate.
pub use Rattle.std.proofs.Common.{[], ℕ, ◌&&◌, ◌++◌, ◌+◌, ◌-◌, ◌<◌, ◌∙◌, ◌∷◌, ◌≡◌, ◌≤◌, Bool, Err, IfSome, IsSome, IsTrue, List, None, Option, Result, Some, add-one, ap, append_assoc, arith}
pub use Rattle.std.proofs.Common.{cond, drop, false, flat_map, get_or, length, length-append, length-drop, map, nat_eq, nat_le, refl, reverse, slice_get, subst, suc, sym, take, true, zero}
pub use Rattle.std.proofs.lemmas.Bool.{eqb-true}
pub use Rattle.std.proofs.lemmas.List.{length-map, length-reverse, length-take, map-append, reverse-append, take-append-le, take_all, take_more}
pub use Rattle.std.proofs.lemmas.Option.{MatchOption-at_some, get_or_from_slice_get, none-some, same_Some, slice_get-get_or, slice_get_read, slice_get_within}
pub use Rattle.std.proofs.lemmas.Result.{err_from_is_err_and}
pub use Rattle.std.specs.List.{list_all, slice_range}
pub use Rattle.std.specs.Result.{is_ok}
pub use Rattle.std.specs.Vec.{vec_len}
pub use Rattle.mv_move_types.specs.Module.{FunctionDefinition, Module, local_type, result_tokens}
pub use Rattle.mv_move_types.specs.Options.{◌>>=◌}
pub use Rattle.mv_move_types.specs.Refusals.{IsRefusedBy, IsRefusedIn}
pub use Rattle.mv_move_types.specs.Tokens.{same_token, same_tokens, same_value_type}
pub use Rattle.mv_move_types.specs.declared.instruction.Instruction.{Instruction}
pub use Rattle.mv_move_types.specs.declared.refusal.Refusal.{Refusal}
pub use Rattle.mv_move_types.specs.declared.refusal.Refusal.TheVariants.{Memory, Phase}
pub use Rattle.mv_move_types.specs.declared.tables.Field.{Field}
pub use Rattle.mv_move_types.specs.declared.tables.FunctionHandle.{FunctionHandle}
pub use Rattle.mv_move_types.specs.declared.token.LeafKind.TheVariants.{Signer}
pub use Rattle.mv_move_types.specs.declared.token.Token.{Token}
pub use Rattle.mv_move_types.specs.declared.token.Token.TheVariants.{MutableReference, Plain, Reference}
pub use Rattle.mv_move_types.specs.declared.token.ValueType.{ValueType}
pub use Rattle.mv_move_types.specs.declared.token.ValueType.TheVariants.{OfLeaf, OfStruct}
pub use Rattle.mv_move_types.specs.declared.token.Width.TheVariants.{U64, U8}
pub use Rattle.mv_cfg.specs.FlowGraph.{basic_block_of}
pub use Rattle.mv_cfg.specs.declared.Block.{Block}
pub use Rattle.mv_cfg.specs.declared.Cfg.{Cfg}
pub use Rattle.mv_stack_use.specs.Heights.{StackEffect, block_is_level, effect_of, function_is_level, height_through}
pub use Rattle.mv_type_states.specs.Answers.{Follows}
pub use Rattle.mv_type_rules.specs.Graphs.{AreGraphs}
pub use Rattle.mv_type_rules.specs.Sound.{types_before, types_each}
pub use Rattle.mv_type_rules.specs.Stacks.{types_of_each}
pub use Rattle.mv_type_rules.specs.Tops.{tops_before, tops_of}
pub use Rattle.mv_type_rules.specs.TypeRules.{Types, of_return, provided, taken, takes_gives}
unfoldable pub use Rattle.mv_type_rules.specs.TypeRules.{types_after}
pub use Rattle.mv_type_rules.specs.TypesHold.{block_is_typed, function_is_typed, types_through}
