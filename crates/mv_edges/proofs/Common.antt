-- What the proofs of this crate speak of all along: words and lemmas of std, names and types of modules, and specs of this crate.
pub use Rattle.std.proofs.Common.{[], ℕ, ◌&&◌, ◌++◌, ◌+◌, ◌-◌, ◌/◌, ◌<◌, ◌==◌, ◌||◌, ◌↔◌, ◌∙◌, ◌∷◌, ◌≡◌, ◌≤◌, ◌⊎◌, Bool, Contains, IfErr, List, None, Option, Some, ap, append-nil}
pub use Rattle.std.proofs.Common.{append_assoc, arith, cond, drop, eqb, false, filter, flat_map, fold, get_or, inl, inr, length, ltb, map, max, ne_eqb, not, option_map, refl, rules}
pub use Rattle.std.proofs.Common.{slice_get, subst, suc, sym, take, take-append-drop, true, true≢false, zero}
pub use Rattle.std.proofs.Math.ListN.{set}
pub use Rattle.std.proofs.lemmas.Bool.{and_cases, and_from, and_parts, both_ways, cases_lt, cond-true, cond_both, eq-eqb, eqb-true, false_from_ne_true, le-ltb, lt-ltb, ltb-false}
pub use Rattle.std.proofs.lemmas.Bool.{ltb-true, or_cases, or_left, or_parts, or_right}
pub use Rattle.std.proofs.lemmas.Fn.{filter_same}
pub use Rattle.std.proofs.lemmas.Grind.{flat_map-append}
pub use Rattle.std.proofs.lemmas.List.{drop_more, get_or-take, get_or_default, length-append, length-drop, length-take-le, map-append, take_all, take_more}
pub use Rattle.std.proofs.lemmas.List.Elements.{Contains-append_cases, Contains-append_left, Contains-append_right}
pub use Rattle.std.proofs.lemmas.List.Folds.{flat_map-map, list_all-append, list_all-map, list_any-append, list_any_at}
pub use Rattle.std.proofs.lemmas.Option.{get_or_from_slice_get, slice_get-get_or, slice_get_within}
pub use Rattle.std.proofs.lemmas.Result.{on_ok_weaker}
pub use Rattle.std.specs.Bool.{beq}
pub use Rattle.std.specs.Cmp.{nat_eq_equiv}
pub use Rattle.std.specs.Cmp.Lexicographic.{bytes_decides}
pub use Rattle.std.specs.List.{list_all, list_any}
pub use Rattle.std.specs.Option.{option_map_or}
pub use Rattle.std.specs.Str.{bytes_eq}
pub use Rattle.std.specs.Vec.{with_items}
pub use Rattle.mv_move_types.specs.Paths.{begins}
pub use Rattle.mv_move_types.specs.declared.borrow.Node.{Node}
pub use Rattle.mv_move_types.specs.declared.borrow.Node.TheVariants.{Glob, Own, Slot, Temp}
pub use Rattle.mv_edges.specs.Ascending.{are_ascending, edge_before, edge_order, list_before, node_code, nodes_code}
pub use Rattle.mv_edges.specs.Counts.{IsCounted, IsWithin, counted}
pub use Rattle.mv_edges.specs.Edges.{Edge, Label, agrees, an_edge, but_out_of, changed, edge_leq, edges_leq, extended, here, inherited, into, label_leq, longest, opened, without_each}
pub use Rattle.mv_edges.specs.Edges.{agrees_if, composed, is_here, opened_at, out_of, renamed, renamed_node, same_edge, same_node, without}
pub use Rattle.mv_edges.specs.Equality.{same_edge_decides, same_node_decides}
pub use Rattle.mv_edges.specs.Joins.{IsJoin}
pub use Rattle.mv_edges.specs.Related.{edge_related, edges_related}
pub use Rattle.mv_edges.specs.Sorted.{inserted, sorted}
