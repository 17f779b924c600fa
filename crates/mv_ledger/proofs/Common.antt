-- What the proofs of this crate speak of all along: words and lemmas of std, names and types of modules, numbers as bytes, texts of entries,
-- the machine's rules, certificates, the store and its linked code, runs of linked code, the storage, and specs of this crate.
pub use Rattle.std.proofs.Common.{[], ◌*◌, ◌++◌, ◌+◌, ◌-◌, ◌<◌, ◌^◌, ◌∙◌, ◌∷◌, ◌≡◌, ◌≤◌, Bool, Err, List, None, Ok, Option, Result}
pub use Rattle.std.proofs.Common.{Some, ap, ap₂, arith, codes, false, inl, inr, length}
pub use Rattle.std.proofs.Common.{length-append, map, option_map, refl, rules, subst, sym, true, zero-add, ℕ}
pub use Rattle.std.proofs.lemmas.Bool.Decides.{nat_tests}
pub use Rattle.std.proofs.lemmas.List.{length-map}
pub use Rattle.std.proofs.lemmas.List.Elements.{All-head, All-nil, All-tail, All-weaker}
pub use Rattle.std.proofs.lemmas.List.FromFn.{length-enumerate_from}
pub use Rattle.std.proofs.lemmas.List.Sums.{count_by-le-length, length-filter}
pub use Rattle.std.proofs.lemmas.Result.{err_from_is_err_and}
pub use Rattle.std.specs.Cmp.{first_so, second_so}
pub use Rattle.std.specs.List.{AllByRecursion, enumerate_from, filter, list_all}
pub use Rattle.std.specs.Prelude.{◌&&◌, All, IfOk, IfSome, OnErr, OnOk, is_some, nat_le}
pub use Rattle.std.specs.Prelude.{nat_lt, ok_or, slice_get, unwrap_or}
pub use Rattle.std.specs.declared.alloc.Global.{Global}
pub use Rattle.std.specs.declared.vec.Vec.{Vec}
pub use Rattle.mv_move_types.specs.Module.{FunctionDefinition, Module, StructDefinition, name_at, parameter_tokens}
pub use Rattle.mv_move_types.specs.Named.{function_place, is_module, module_place}
pub use Rattle.mv_move_types.specs.Names.{ModuleName, StructName}
pub use Rattle.mv_move_types.specs.Published.{PublishedModule, with_modules}
pub use Rattle.mv_move_types.specs.Results.{◌>>◌, need}
pub use Rattle.mv_move_types.specs.Scarce.{is_scarce_struct}
pub use Rattle.mv_move_types.specs.declared.refusal.Refusal.{Refusal}
pub use Rattle.mv_move_types.specs.declared.refusal.Refusal.TheVariants.{Phase}
pub use Rattle.mv_move_types.specs.declared.tables.Definition.{Definition}
pub use Rattle.mv_move_types.specs.declared.token.Token.{Token}
pub use Rattle.mv_binary_format.proofs.Fitting.{few_structs}
pub use Rattle.mv_binary_format.specs.Laws.{IsReadByText}
pub use Rattle.mv_module_text.specs.Fits.{address_fits}
pub use Rattle.mv_frames.specs.Counters.{AtMost, Count, packs_at, unpacks_at}
pub use Rattle.mv_machine.specs.declared.StructTally.{StructTally}
pub use Rattle.mv_storage.specs.Map.{Layers}
pub use Rattle.mv_machine.specs.Count.{count}
pub use Rattle.mv_machine.specs.Flat.{FlatEntry, storage_of}
pub use Rattle.mv_machine.specs.Ledger.{Answers, AreRead, AsJson, AsText, Audit, Bad, BadRun, Format, LedgerState, Offer, Publish, Request, Run, RunRequest, Show, admitted, are_arguments}
pub use Rattle.mv_machine.specs.Ledger.{attempted, audited, modules_of, scarce_structs, applied, shown, tally_of, tally_with, with_bundle}
pub use Rattle.mv_machine.specs.Ledger.{with_signer, with_signer as with_sender}
pub use Rattle.mv_machine.specs.Lines.{RanOut, RanToAbort, Published as ToldPublished, count_line}
pub use Rattle.mv_machine.specs.Lines.{Refused as ToldRefused, Rejected as ToldRejected, Reply, Reply as Told, RanToEnd, Tallied, Told as ToldLines, count_object}
pub use Rattle.mv_machine.specs.Lines.{audit_json, audit_lines, end_line, json_line}
pub use Rattle.mv_machine.specs.Run.{Aborted, Exhausted, Faulted, FunctionCall, Returned, RunOutcome, packs, run, unpacks}
pub use Rattle.mv_machine.specs.State.{Event, Storage}
pub use Rattle.mv_machine.specs.Typed.{leaf_fits}
pub use Rattle.mv_machine.specs.Value.{Leaf, Value}
pub use Rattle.mv_machine.specs.declared.Ending.TheVariants.{Aborted as HasAborted, Exhausted as HasExhausted, Returned as HasReturned}
pub use Rattle.mv_bound_rules.proofs.Found.{found_at, some-of}
pub use Rattle.mv_link_rules.specs.Link.{IsPublishable, IsStore, tables_in}
pub use Rattle.mv_interface.specs.declared.shapes.Part.TheVariants.{Leaf as LeafPart, Nothing, Struct as StructPart}
pub use Rattle.mv_ledger_state.proofs.Common.{Ranged, leaf_ranges}
pub use Rattle.mv_machine.specs.Tallies.{nameless}
pub use Rattle.mv_machine.specs.Arguments.{arg_value}
pub use Rattle.mv_interpreter.specs.Runs.{Agrees, Tallies, call_of}
pub use Rattle.mv_ledger_state.specs.View.{IsFineWords}
pub use Rattle.mv_ledger_state.specs.Accepted.Records.{EachRecordIsWell}
pub use Rattle.mv_ledger_state.specs.Accepted.SoundLedger.{IsSoundLedger}
pub use Rattle.mv_ledger.specs.Answering.{AnswersRecord, Replies, told, told_ending}
pub use Rattle.mv_ledger_state.specs.Asking.{request_of}
pub use Rattle.mv_lines.specs.Auditing.{audit_from, counts_json, stored_of}
pub use Rattle.mv_ledger.specs.Changes.{Leaves, RunsTo}
pub use Rattle.mv_ledger_state.specs.Exact.{IsAccepted, IsRefused, failing, no_bundle}
pub use Rattle.mv_ledger_state.specs.Judging.{IsAcceptedBy, IsRefusedOver}
pub use Rattle.mv_saved_text.specs.Parts.Saving.{IsWritable}
pub use Rattle.mv_ledger_state.specs.Publishing.{AllPass, Spells}
pub use Rattle.mv_ledger_state.specs.RecordText.{Asks, IsShaped, IsShapeless, argument_fits, format_text, offer_fits, run_fits}
pub use Rattle.mv_ledger.specs.Running.{IsAdmission, IsAdmitted, IsApplied, run_of}
pub use Rattle.mv_saved_text.specs.SavedLaws.{IsSavable}
pub use Rattle.mv_ledger_state.specs.Tallying.{AddsTallies, tally_after}
pub use Rattle.mv_ledger_state.proofs.TallyWords.{IsNamed}
pub use Rattle.mv_ledger_state.specs.View.{AreScarce, IsLedger, IsSmall, IsTalliedStore, LedgerView, PublishedView, none_published, scarce_indices, state_of, view_of}
pub use Rattle.mv_machine.specs.Tallies.{all_of, tallied}
pub use Rattle.mv_ledger.specs.declared.executing.Barred.{Barred}
pub use Rattle.mv_ledger.specs.declared.executing.Barred.TheVariants.{Rejected, Rejected as BarredRejected}
pub use Rattle.mv_ledger.specs.declared.executing.Call.{Call}
pub use Rattle.mv_machine.specs.declared.Tally.{Tally}
pub use Rattle.mv_bound_rules.proofs.Entries.{place_below}
