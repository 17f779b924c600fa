use Rattle.mv_storage.proofs.Common.{◌≡◌, ◌<◌, None, Option, Some, length, refl, slice_get, subst, ℕ, of_layer, Slot, Current}
use Rattle.std.proofs.Common.{◌≤◌, ◌+◌}
use Rattle.std.specs.Prelude.{IfSome}
use Rattle.mv_storage.specs.Slots.{IsOwn}
use Rattle.mv_storage.proofs.SlotReads.{get-read}
use Rattle.mv_storage.proofs.places.Places.words_at.Goals as goal

pub returns-in-Some : goal.returns-in-Some
returns-in-Some c =
    let asked = subst (λ (o : Option ℕ). IfSome o (λ p. p < length c.args.self.now.slots.items)) c.in-Some.is (within c.args.place c.requires) in
    let got : slice_get c.args.self.now.slots.items c.in-Some.place ≡ Some c.index_mut.result.now = get-read c.args.self.now.slots.items c.in-Some.place c.index_mut.result.now asked c.index_mut.ensures.value in
    rw (c.in-Some.is, got) ((refl, λ w. refl), record { loan = tt; words = c.part.ensures.words; none = λ e. cc })
  where
    within : (o : Option ℕ) → IfSome o (λ p. (1 ≤ c.args.width) × (p < length c.args.self.now.slots.items) × ((s : Slot) → slice_get c.args.self.now.slots.items p ≡ Some s → IsOwn s × IfSome (of_layer Current s) (λ old. c.args.from + c.args.width ≤ length old)))
        → IfSome o (λ p. p < length c.args.self.now.slots.items)
    within None h = tt
    within (Some p) h = h.1

pub returns-in-None : goal.returns-in-None
returns-in-None c = rw c.in-None.is ((refl, λ w. refl), record { loan = tt; words = tt; none = λ _. c.slice_mut.ensures.value })
