-- What the theory of borrows speaks of all along: words and lemmas of std, edges and certificates, the machine's rules, and the specs of this theory.
pub use Rattle.std.proofs.Common.{refl, sym, ◌≡◌, ℕ, List, [], ◌∷◌, true, false, ◌⊎◌, inl, inr, ap, subst, zero, suc, ◌++◌, map, length, Option, Some, None, Ok, ◌≤◌, ◌+◌, ◌-◌, reverse}
pub use Rattle.std.proofs.Common.{Bool, not, cond, ◌∙◌, ap₂, arith, eqb, ◌<◌, Result, Err}
pub use Rattle.std.proofs.lemmas.Bool.{and_from, eq-eqb, and_parts, eqb-true, not-true, true≢false, or_cases, cases_Bool}
pub use Rattle.std.proofs.lemmas.Bool.Decides.{eqb_tells}
pub use Rattle.std.proofs.lemmas.Grind.{reverse_onto}
pub use Rattle.std.proofs.lemmas.List.{length-map, length-append, length-reverse, map-append}
pub use Rattle.std.proofs.lemmas.Option.{same_Some, none-some, option_and_then_some}
pub use Rattle.std.specs.Bool.{beq}
pub use Rattle.std.specs.List.{list_any, list_all}
pub use Rattle.std.specs.Option.{option_map_or}
pub use Rattle.std.specs.Prelude.{◌==◌, ⊤, slice_get, slice_set, replicate, ◌&&◌, ◌||◌, filter, option_and_then, ok_or, flat_map, option_map}
pub use Rattle.mv_move_types.specs.Flow.{successors}
pub use Rattle.mv_move_types.specs.Module.{Module, FunctionDefinition, local_type}
pub use Rattle.mv_move_types.specs.Options.{◌>>=◌ as ◌>>>◌}
pub use Rattle.mv_move_types.specs.Paths.{begins}
pub use Rattle.mv_move_types.specs.Results.{need}
pub use Rattle.mv_move_types.specs.Tags.{Tag}
pub use Rattle.mv_move_types.specs.declared.borrow.Availability.{Availability}
pub use Rattle.mv_move_types.specs.declared.borrow.Node.{Node}
pub use Rattle.mv_move_types.specs.declared.borrow.Node.TheVariants.{Slot, Own, Glob, Temp}
pub use Rattle.mv_move_types.specs.declared.instruction.Instruction.{Instruction}
pub use Rattle.mv_move_types.specs.declared.instruction.Instruction.TheVariants.{Call, Ret, Exists, MutBorrowGlobal, ImmBorrowGlobal, MoveFrom, MoveTo, CopyLoc, MoveLoc, StLoc}
pub use Rattle.mv_move_types.specs.declared.instruction.Instruction.TheVariants.{MutBorrowLoc, ImmBorrowLoc, MutBorrowField, ImmBorrowField, ReadRef, WriteRef, FreezeRef}
pub use Rattle.mv_move_types.specs.declared.tables.Key.{Key}
pub use Rattle.mv_move_types.specs.declared.token.Token.{Token}
pub use Rattle.mv_move_types.specs.declared.token.Token.TheVariants.{Plain, Reference as ReferenceTo, MutableReference as MutableReferenceTo}
pub use Rattle.mv_machine.proofs.Binds.{ok-is, operand-is, found-is}
pub use Rattle.mv_machine.proofs.Laws.{on_ok, begins-more}
pub use Rattle.mv_machine.proofs.Operations.{GivesLeaf}
pub use Rattle.mv_machine.specs.Live.{reference_of, live, is_frozen_by, frame_references, overlap}
pub use Rattle.mv_machine.specs.State.{Frame, State, place_value, frames}
pub use Rattle.mv_machine.specs.StepParts.{Here, can_drop, operand, as_fields, Turn, gives, with_top, as_reference, with_stack, Goes, truth}
pub use Rattle.mv_machine.specs.Typing.{tag_named, Faults, TypeFault, entry, has_tag, FrozenFault, LostFault}
pub use Rattle.mv_machine.specs.Value.{Stored, Reference, Value, Local, Leaf, Struct, Ref, Root, Place}
pub use Rattle.mv_borrow_graph.proofs.Abstract.Run.{layer, EdgesBelow, Kinds, chain_steps}
pub use Rattle.mv_borrow_graph.proofs.Abstract.Terms.Covers.{Node as TheNode, Own as AtOwn, Glob as AtGlob, Temp as AtTemp, Ref as TheRef, Live, Slot as AtSlot, Edges}
pub use Rattle.mv_borrow_graph.proofs.Abstract.Terms.Lists.{Value as TheValue, seen as seen_frame, local_ref, stack_ref, Activation, refs_among, set_local}
pub use Rattle.mv_borrow_graph.proofs.Abstract.Terms.Places.{Defined, Label as TheLabel, LabelBelow}
pub use Rattle.mv_borrow_graph.proofs.Abstract.Terms.Rows.{Bars, BorrowField, Need}
pub use Rattle.mv_borrow_graph.proofs.Abstract.Terms.Stack.{Chain, Layer, OnStack, Top, Lower}
pub use Rattle.mv_certificate_rules.specs.BorrowRules.{no_edge_out, is_mutable, return_edges, no_mutable_from, is_mutable_token, is_reference_token, call_edges, is_temp, is_root_node}
pub use Rattle.mv_edges.specs.Edges.{Edge, same_node, without, inherited, Label, here, renamed, an_edge, extended, out_of}
pub use Rattle.mv_type_rules.specs.TypeRules.{Types, of_call}
pub use Rattle.mv_type_rules.specs.TypesHold.{Point}
pub use Rattle.mv_soundness.proofs.Lists.{map-turned}
pub use Rattle.mv_soundness.specs.Borrows.Covers.{Seen}
pub use Rattle.mv_soundness.proofs.Borrows.Hypotheses.{token_kind, operand_kind, Fits, InRefs, NoneInside, NoneOf}
pub use Rattle.mv_soundness.proofs.Borrows.Links.{IsCall, Reaches}
pub use Rattle.mv_soundness.proofs.Borrows.Stood.{Stood, seen_of, layer_at, layers, home_of, StoodOn, Descending, AllUnder, Sound}
pub use Rattle.mv_soundness.proofs.Borrows.View.{ref_of, defined, local_of, node_of, Member, edges_of, held_as, activation, acquires_of, layer_of, operands_of, kind_at, label_from, alone}
pub use Rattle.mv_soundness.proofs.Borrows.View.{root_of, AmongNodes, label_of}
pub use Rattle.mv_module_text.proofs.Texts.{on_bind}
