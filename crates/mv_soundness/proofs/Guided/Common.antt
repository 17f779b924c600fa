-- What the theory of guided runs speaks of all along: words and lemmas of std, certificates, the machine's rules, and the specs of the theories below.
pub use Rattle.std.proofs.Common.{◌≡◌, ℕ, zero, suc, ◌+◌, ◌-◌, List, [], ◌∷◌, ◌++◌, map, length, true, false, refl, sym, ◌∙◌, ap, subst, arith, Bool, Option, Some, None, option_map, Ok}
pub use Rattle.std.proofs.Common.{reverse, ◌⊎◌, inl, inr, ◌<◌, ◌≤◌, ap₂, cond, Result, Err, take}
pub use Rattle.std.proofs.lemmas.Bool.{and_parts, and_from, eq-eqb, eqb-true, leb-true, false_from_ne_true, or_left, or_right, or_cases}
pub use Rattle.std.proofs.lemmas.Grind.{reverse_onto}
pub use Rattle.std.proofs.lemmas.List.{length-append}
pub use Rattle.std.proofs.lemmas.Option.{same_Some, slice_get-map, none-some, option_and_then_some}
pub use Rattle.std.specs.Bool.{beq}
pub use Rattle.std.specs.List.{list_any, cons_option, list_all}
pub use Rattle.std.specs.Option.{option_map_or}
pub use Rattle.std.specs.Prelude.{slice_get, ◌==◌, nat_le, zip, option_and_then, ok_or, ⊤, ◌&&◌, ◌||◌, flat_map, slice_range, IsTrue, nat_lt}
pub use Rattle.mv_move_types.specs.AbilitySets.{same_abilities}
pub use Rattle.mv_move_types.specs.Flow.{ends_block, successors}
pub use Rattle.mv_move_types.specs.Module.{Module, FunctionDefinition, local_tokens, struct_name, local_type, module_name, own_name}
pub use Rattle.mv_move_types.specs.Named.{declared, module_place, function_place}
pub use Rattle.mv_move_types.specs.Names.{StructName}
pub use Rattle.mv_move_types.specs.Results.{for_each}
pub use Rattle.mv_move_types.specs.Tags.{Tag, same_tag, same_tags, StructTag, LeafTag, ReferenceTag}
pub use Rattle.mv_move_types.specs.Tokens.{same_width}
pub use Rattle.mv_move_types.specs.declared.borrow.Availability.{Availability}
pub use Rattle.mv_move_types.specs.declared.borrow.Availability.TheVariants.{Available, Unavailable}
pub use Rattle.mv_move_types.specs.declared.borrow.Node.TheVariants.{Own, Glob, Temp}
pub use Rattle.mv_move_types.specs.declared.instruction.Instruction.{Instruction}
pub use Rattle.mv_move_types.specs.declared.instruction.Instruction.TheVariants.{Ret, StLoc, MoveFrom, Call, MoveLoc, MutBorrowGlobal, ImmBorrowGlobal, Pop, CopyLoc, ReadRef, WriteRef, Eq}
pub use Rattle.mv_move_types.specs.declared.instruction.Instruction.TheVariants.{Neq}
pub use Rattle.mv_move_types.specs.declared.tables.FunctionHandle.{FunctionHandle}
pub use Rattle.mv_move_types.specs.declared.tables.Key.{Key}
pub use Rattle.mv_move_types.specs.declared.token.Token.{Token}
pub use Rattle.mv_move_types.specs.declared.token.Token.TheVariants.{Plain, Reference as ReferenceTo, MutableReference as MutableReferenceTo}
pub use Rattle.mv_move_types.specs.declared.token.ValueType.{ValueType}
pub use Rattle.mv_move_types.specs.declared.token.ValueType.TheVariants.{OfLeaf, OfStruct}
pub use Rattle.mv_move_types.specs.declared.token.Width.TheVariants.{U8}
pub use Rattle.mv_machine.proofs.Binds.{ok-is, found-is}
pub use Rattle.mv_machine.proofs.Laws.{on_ok, on_need}
pub use Rattle.mv_machine.proofs.Transfers.{callee-is, signature-is, return-is}
pub use Rattle.mv_machine.specs.Live.{reference_of, references, local_references, frame_references, live, is_frozen_by}
pub use Rattle.mv_machine.specs.Run.{FunctionCall}
pub use Rattle.mv_machine.specs.State.{Frame, State, frames, stored_at, place_value, Storage, root_value}
pub use Rattle.mv_machine.specs.StepControl.{Callee, leaves}
pub use Rattle.mv_machine.specs.StepLocals.{local_tag, local_place}
pub use Rattle.mv_machine.specs.StepNumbers.{constant_value}
pub use Rattle.mv_machine.specs.StepParts.{Here, operand, operands, as_number, as_boolean, as_reference, Goes, as_address, as_signer, as_fields, follow, Turn, Returns, with_stack}
pub use Rattle.mv_machine.specs.StepParts.{can_drop}
pub use Rattle.mv_machine.specs.Typing.{Failure, Aborts, Faults, TypeFault, LinkageFault, LostFault, DanglingFault, FrozenFault, entry, linked, tag_named, value_type_tag, have_tags}
pub use Rattle.mv_machine.specs.Value.{Value, Root, Local, Stored, Reference, Ref, Leaf, Struct, list_of}
pub use Rattle.mv_borrow_graph.proofs.Abstract.Terms.Covers.{Live}
pub use Rattle.mv_borrow_graph.proofs.Abstract.Terms.Places.{Local as InLocal, Global as InStore}
pub use Rattle.mv_borrow_graph.proofs.Abstract.Terms.Stack.{Chain}
pub use Rattle.mv_certificate_rules.specs.BorrowRules.{no_edge_out, return_edges}
pub use Rattle.mv_certificate_rules.specs.Certificate.{Known, Certificate, Stated, flow_holds, through, stated_at}
pub use Rattle.mv_certificate.specs.Known.{known_before, known_after}
pub use Rattle.mv_cfg.proofs.Tiling.{blocks-tile}
pub use Rattle.mv_cfg.specs.Blocks.{BasicBlock as Block, starts_from, blocks, leads_to}
pub use Rattle.mv_edges.specs.Edges.{edges_leq, Edge}
pub use Rattle.mv_module_text.proofs.Texts.{on_bind}
pub use Rattle.mv_certificate_rules.specs.LocalsRules.{locals_leq}
pub use Rattle.mv_type_rules.specs.TypeRules.{Types}
pub use Rattle.mv_type_rules.specs.TypesHold.{Point}
pub use Rattle.mv_soundness.proofs.Lists.{map-turned}
pub use Rattle.mv_soundness.proofs.Borrows.Hypotheses.{InRefs, Fits, token_kind, operand_kind, NoneOf, NoneInside}
pub use Rattle.mv_soundness.specs.Borrows.Invariant.{Holds}
pub use Rattle.mv_soundness.proofs.Borrows.Links.{Reaches}
pub use Rattle.mv_soundness.proofs.Borrows.Locals.{AsKnown}
pub use Rattle.mv_soundness.proofs.Borrows.Stood.{Stood, seen_of, layer_at, layers, StoodOn, point_of, Sound, home_of}
pub use Rattle.mv_soundness.proofs.Borrows.View.{root_of, held_as, local_of, alone, defined, ref_of, operands_of}
pub use Rattle.mv_soundness.proofs.Guided.Facts.{StoreFacts, TypeFacts, Rooted, Able, FrameFits}
pub use Rattle.mv_soundness.proofs.Guided.Guided.{AllPlaced, StoodFit, AllAgree, Guided, AllCovered, Placed}
pub use Rattle.mv_soundness.specs.Guided.Outcome.{ComesTo}
pub use Rattle.mv_soundness.proofs.Guided.Store.{StoreCertified, Depends}
pub use Rattle.mv_soundness.specs.Typing.Accepted.{ModuleAccepted}
pub use Rattle.mv_soundness.proofs.Typing.Facts.{SoundStore}
pub use Rattle.mv_soundness.specs.Typing.StateTyped.{StateTyped, HaveTokens}
pub use Rattle.mv_acquires.specs.Acquires.{AcquiresHold}
pub use Rattle.mv_bound_rules.proofs.Entries.{all_at}
