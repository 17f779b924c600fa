-- What the proofs of this crate speak of all along: words and lemmas of std, names and types of modules, and specs of this crate.
pub use Rattle.std.proofs.Common.{[], ℕ, ◌++◌, ◌+◌, ◌-◌, ◌<◌, ◌∙◌, ◌∷◌, ◌≡◌, ◌≤◌, Bool, Err, IfSome, IsTrue, List, None, Option, Result, Some, ap, arith}
pub use Rattle.std.proofs.Common.{drop, false, get_or, length, length-append, length-drop, map, nat_le, refl, reverse, slice_get, subst, suc, sym, take, true}
pub use Rattle.std.proofs.lemmas.List.{length-map, length-reverse, map-append, reverse-append, take-append-le, take_all, take_more}
pub use Rattle.std.proofs.lemmas.Option.{MatchOption-at_some, get_or_from_slice_get, same_Some, slice_get-get_or, slice_get_read, slice_get_within}
pub use Rattle.std.specs.List.{slice_range}
pub use Rattle.mv_move_types.specs.Module.{FunctionDefinition, Module}
pub use Rattle.mv_move_types.specs.Refusals.{IsRefusedBy, IsRefusedIn}
pub use Rattle.mv_move_types.specs.declared.refusal.Refusal.{Refusal}
pub use Rattle.mv_move_types.specs.declared.token.Token.{Token}
pub use Rattle.mv_cfg.specs.declared.Cfg.{Cfg}
pub use Rattle.mv_type_rules.specs.Graphs.{AreGraphs}
pub use Rattle.mv_type_rules.specs.Sound.{types_before}
pub use Rattle.mv_type_rules.specs.Stacks.{types_of_each}
pub use Rattle.mv_type_rules.specs.Tops.{tops_before, tops_of}
pub use Rattle.mv_type_rules.specs.TypeRules.{Types}
pub use Rattle.mv_type_rules.specs.TypesHold.{function_is_typed}
