-- What a ledger holds stays as it has to where a bundle is published, and where a run was had.
use Rattle.mv_ledger.proofs.Common.{[], ◌+◌, ◌<◌, ◌≡◌, Err, List, Ok, Result, arith, refl, subst, sym, ℕ, All-nil, All, IfOk, OnErr, OnOk, PublishedModule, Refusal}
use Rattle.mv_ledger.proofs.Common.{FlatEntry, IsStore, tables_in, IsFineWords, IsSoundLedger, IsAcceptedBy, AddsTallies, IsLedger, IsSmall, LedgerView, PublishedView, all_of, none_published, state_of, view_of, Tally}
use Rattle.mv_ledger_state.proofs.Bundles.Joining.{added-small}
use Rattle.mv_ledger_state.proofs.Bundles.Sized.{sized_published}
use Rattle.mv_ledger_state.proofs.Bundles.Staying.{stays-fine, stored-stays}
use Rattle.mv_ledger_state.proofs.Accepted.Sound.{empty_sound}
use Rattle.mv_ledger_state.specs.View.{HeldView}
use Rattle.mv_ledger.specs.Marks.{marked}
use Rattle.mv_ledger.proofs.Replying.{sound_with}

-- nothing published, stored or run
no_ledger : IsLedger [] [] [] 0
no_ledger = record { sized = refl; fine = All-nil (IsFineWords []); small = All-nil (IsSmall 0); counted = omega arith; sound = empty_sound }

pub ledger-new : (published : PublishedView) (stored : List FlatEntry) → published ≡ none_published → stored ≡ [] → IsLedger published.modules stored (all_of published.tallies) 0
ledger-new published stored none nothing =
    subst (λ (p : PublishedView). IsLedger p.modules stored (all_of p.tallies) 0) (sym none) (subst (λ (es : List FlatEntry). IsLedger [] es [] 0) (sym nothing) no_ledger)

-- a ledger whose modules and tallies changed as a publish record's answer says
pub ledger-published : (r : Result ℕ Refusal) (old new : PublishedView) (payload : List ℕ) (stored : List FlatEntry) (runs : ℕ) → IfOk r (λ n. IsAcceptedBy n old.modules payload new.modules)
    → OnOk r (AddsTallies old.modules new.modules (all_of old.tallies) (all_of new.tallies)) → OnOk r (IsStore new.modules) → OnErr r (new ≡ old)
    → IsLedger old.modules stored (all_of old.tallies) runs → IsLedger new.modules stored (all_of new.tallies) runs
ledger-published (Ok count) old new payload stored runs accepted tallied whole kept is =
    let o = old.modules in
    let n = new.modules in
    record {
      sized = sized_published count o n payload accepted is.sized;
      fine = stays-fine count o n payload stored is.sound.store whole accepted is.fine;
      small = added-small o n (all_of old.tallies) (all_of new.tallies) runs tallied is.small;
      counted = is.counted;
      sound = sound_with o n payload stored (all_of old.tallies) (all_of new.tallies) runs count accepted (stored-stays count o n payload stored is.sound.store whole accepted is.fine) tallied whole is.sound;
    }
ledger-published (Err e) old new payload stored runs accepted tallied whole kept is = subst (λ (p : PublishedView). IsLedger p.modules stored (all_of p.tallies) runs) (sym kept) is

-- a ledger whose storage and tallies a run changed
pub ledger-run : (old modules : List PublishedModule) (stored new : List FlatEntry) (before after : List Tally) (runs : ℕ) → modules ≡ old → All (IsFineWords (tables_in old)) new
    → (All (IsSmall runs) before → All (IsSmall (runs + 1)) after) → runs < 4294967296 → IsSoundLedger (state_of (view_of old new after (runs + 1)))
    → IsLedger old stored before runs → IsLedger modules new after (runs + 1)
ledger-run old modules stored new before after runs same fine small few sound is =
    subst (λ (ps : List PublishedModule). IsLedger ps new after (runs + 1)) (sym same)
    (record { sized = is.sized; fine = fine; small = small is.small; counted = omega (arith, few); sound = sound })

-- memory ran out in a run
pub ledger-kept : (old modules : List PublishedModule) (stored new : List FlatEntry) (before after : List Tally) (runs : ℕ) → modules ≡ old → new ≡ stored → after ≡ before
    → IsLedger old stored before runs → IsLedger modules new after runs
ledger-kept old modules stored new before after runs p q r is = rw (p, q, r) is

-- ---- what a ledger holds, by the fields of its modules with their tallies

module _ (p q : PublishedView) (stored : List FlatEntry) (runs : ℕ) (same : p ≡ q) where
  pub held-is : (marks : List HeldView) (v : LedgerView) → marked (view_of q.modules stored (all_of q.tallies) runs) marks ≡ v → marked (view_of p.modules stored (all_of p.tallies) runs) marks ≡ v
  held-is marks v is = rw same is

  pub held-sound : IsSoundLedger (state_of (view_of q.modules stored (all_of q.tallies) runs)) → IsSoundLedger (state_of (view_of p.modules stored (all_of p.tallies) runs))
  held-sound sound = rw same sound
