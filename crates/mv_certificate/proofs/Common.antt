-- What the proofs of this crate speak of all along: words and lemmas of std, names and types of modules, and specs of this crate.
pub use borrow.Author.Count.{below_more}
pub use Rattle.std.proofs.Common.{[], ℕ, ◌&&◌, ◌++◌, ◌+◌, ◌-◌, ◌<◌, ◌==◌, ◌∙◌, ◌∷◌, ◌≡◌, ◌≤◌, Bool, Contains, Err, IsTrue, List, None, Option, Some, ap, append-nil, append_assoc, arith}
pub use Rattle.std.proofs.Common.{cond, drop, eq-eqb, false, flat_map, get_or, inl, inr, is_some, length, map, nat_le, nat_lt, option_map, refl, rules, slice_get, subst, suc, sym, take}
pub use Rattle.std.proofs.Common.{Global, Vec, true, true≢false, zero}
pub use Rattle.std.proofs.lemmas.Bool.{and_from, and_parts, eqb-true, false≢true, le-leb, leb-true}
pub use Rattle.std.proofs.lemmas.Grind.{common_steps, flat_map-append}
pub use Rattle.std.proofs.lemmas.List.{length-map, take_all, take_more}
pub use Rattle.std.proofs.lemmas.List.Concat.{flat_map_single}
pub use Rattle.std.proofs.lemmas.List.Elements.{All-contains}
pub use Rattle.std.proofs.lemmas.Option.{none-some, same_Some, slice_get-map, slice_get_within, some_pair_parts}
pub use Rattle.std.proofs.lemmas.Result.{IfErr-weaker}
pub use Rattle.std.specs.Bool.{then_some}
pub use Rattle.std.specs.List.{list_all}
pub use Rattle.std.specs.Option.{option_map_or}
pub use Rattle.mv_move_types.specs.Module.{FunctionDefinition, Module, local_tokens}
pub use Rattle.mv_move_types.specs.Options.{◌>>=◌}
pub use Rattle.mv_move_types.specs.Refusals.{IsRefusedIn}
pub use Rattle.mv_move_types.specs.declared.borrow.Availability.{Availability}
pub use Rattle.mv_move_types.specs.declared.borrow.Availability.TheVariants.{Available, Maybe, Unavailable}
pub use Rattle.mv_move_types.specs.declared.borrow.Node.{Node}
pub use Rattle.mv_move_types.specs.declared.borrow.Node.TheVariants.{Glob, Own, Slot, Temp}
pub use Rattle.mv_move_types.specs.declared.instruction.Instruction.{Instruction}
pub use Rattle.mv_move_types.specs.declared.refusal.Refusal.{Refusal}
pub use Rattle.mv_move_types.specs.declared.refusal.Refusal.TheVariants.{Memory, Phase}
pub use Rattle.mv_move_types.specs.declared.tables.FunctionHandle.{FunctionHandle}
pub use Rattle.mv_move_types.specs.declared.token.Token.{Token}
pub use Rattle.mv_uleb.specs.Parsing.{number_from}
pub use Rattle.mv_uleb.specs.Uleb.{uleb}
pub use Rattle.mv_module_text.proofs.Entries.{ReadsOn, ReadsOn-next}
pub use Rattle.mv_module_text.specs.Entries.{counted}
pub use Rattle.mv_module_text.specs.Laws.{AreBytes}
pub use Rattle.mv_module_text.specs.Parsing.{counted_from, entries_from}
pub use Rattle.mv_bound_rules.specs.Bounds.{local_count}
pub use Rattle.mv_cfg.specs.Blocks.{BasicBlock, blocks}
pub use Rattle.mv_cfg.specs.FlowGraph.{IsFlowGraph, basic_block_of}
pub use Rattle.mv_cfg.specs.Graph.{along, at_entry}
pub use Rattle.mv_cfg.specs.declared.Block.{Block}
pub use Rattle.mv_cfg.specs.declared.Cfg.{Cfg}
pub use Rattle.mv_edges.specs.Ascending.{are_ascending}
pub use Rattle.mv_edges.specs.Edges.{Edge, Label, edges_leq, extended, opened}
pub use Rattle.mv_lattice.specs.Flow.{IsClosed, IsFlow, IsStated, states_of}
pub use Rattle.mv_type_rules.specs.Sound.{types_before}
pub use Rattle.mv_type_rules.specs.TypeRules.{Types}
pub use Rattle.mv_type_rules.specs.TypesHold.{Point, function_is_typed}
pub use Rattle.mv_locals_safety.specs.Domain.{IsOfLocals}
pub use Rattle.mv_certificate_rules.specs.BorrowRules.{edges_after}
pub use Rattle.mv_borrow_graph.specs.Domain.{ordered}
pub use Rattle.mv_borrow_graph.specs.Laws.BlockTypes.{block_at}
pub use Rattle.mv_certificate_rules.specs.Certificate.{Certificate, Known, Rule, Stated, all_edges_hold, all_locals_hold, flow_holds, instructions_of, through}
pub use Rattle.mv_certificate_rules.specs.CertificateText.{IsCertificateText, availability_code, certificate_text, edge_text, known_text, node_text, stated_text}
pub use Rattle.mv_certificate.specs.Functions.{EdgesHoldAt, LocalsHoldAt}
pub use Rattle.mv_certificate.specs.Parsing.{availability_from, block_from, edge_from, edges_from, known_from, label_from, node_from, openness_from, stated_from}
pub use Rattle.mv_certificate.specs.Reads.{IsUnreadAt}
pub use Rattle.mv_certificate_rules.specs.Shape.{AllStatedFit, StatedFits, edge_fits, known_fits}
pub use Rattle.mv_bound_rules.proofs.Entries.{all_at}
