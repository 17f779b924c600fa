-- What the proofs of this crate speak of all along: words and lemmas of std, names and types of modules, and specs of this crate.
pub use Rattle.std.proofs.Common.{[], ℕ, ⊎_elim, ◌++◌, ◌<◌, ◌==◌, ◌||◌, ◌∙◌, ◌∷◌, ◌≡◌, ◌≤◌, ◌⊎◌, Bool, List, None, Option, Some, ap, arith, cond, false, inl, inr, is_some, length, refl}
pub use Rattle.std.proofs.Common.{slice_get, slice_index_or, slice_set, subst, suc, sym, take, true}
pub use Rattle.std.proofs.lemmas.Bool.Decides.{nat_tests}
pub use Rattle.std.proofs.lemmas.Option.{slice_get_within}
pub use Rattle.std.proofs.lemmas.Result.{IfOk-weaker, on_err_weaker, on_ok_weaker}
pub use Rattle.std.specs.BTreeMap.{IsOrdered, get, is_at}
pub use Rattle.std.specs.Map.{lookup}
pub use Rattle.std.specs.Option.{option_and_then}
pub use Rattle.std.specs.Ordering.{is_eq, is_lt}
pub use Rattle.std.specs.Vec.{with_item}
pub use Rattle.std.specs.declared.cmp.Ordering.TheVariants.{Less}
pub use Rattle.mv_move_types.specs.declared.tables.Key.{Key}
pub use Rattle.mv_machine.specs.Flat.{FlatEntry}
pub use Rattle.mv_machine.specs.State.{key_before, same_key}
pub use Rattle.mv_storage.specs.FlatStorage.{with_words, without_words, words_under}
pub use Rattle.mv_storage.specs.Map.{Ascends, IsBelow}
pub use Rattle.mv_storage.specs.Slots.{AreNoted, IsResolving, IsSound, IsTracked, ShowsSame, is_changed, is_vacant, key_cmp, layer_at, of_layer, seen, shown, slot_at}
pub use Rattle.mv_storage.specs.Slots.{value_at}
pub use Rattle.mv_storage.specs.declared.places.Places.{Places}
pub use Rattle.mv_storage.specs.declared.slot.Layer.{Layer}
pub use Rattle.mv_storage.specs.declared.slot.Layer.TheVariants.{Committed, Current}
pub use Rattle.mv_storage.specs.declared.slot.Slot.{Slot}
pub use Rattle.mv_storage.specs.declared.slot.Slot.TheVariants.{Vacant}
