-- What is saved of a sound ledger within its limits is refused for want of memory alone: it is loaded, and what is loaded has no reason
-- against it.
use Rattle.mv_saved_text.proofs.Common.{◌≡◌, ℕ, List, refl, subst, sym, IsReadByText, LedgerState, FailsLoad, IsLoaded}
use Rattle.mv_ledger_state.specs.Accepted.SoundLedger.{IsSoundLedger}
use Rattle.mv_saved_text.specs.Loading.{IsLoadRefusal}
use Rattle.mv_saved_text.specs.SavedLaws.{IsSavable, NoSaveIsRefused}
use Rattle.mv_saved_text.specs.declared.loading.LoadError.{LoadError}
use Rattle.mv_saved_text.specs.declared.loading.LoadError.TheVariants.{Head, Module, Link, Body, Tally, Memory}
use Rattle.mv_saved_text.proofs.SavedFails.{loads-hold}
use Rattle.mv_saved_text.proofs.Saves.SavedLoads.{saves-load}

-- bytes that have no reason against them are refused for want of memory
for-memory : (bytes : List ℕ) (error : LoadError) → ((number : ℕ) → FailsLoad bytes number → ⊥) → IsLoadRefusal bytes error → error ≡ Memory
for-memory bytes Head never refused = absurd (never 1 refused)
for-memory bytes Module never refused = absurd (never 2 refused)
for-memory bytes Link never refused = absurd (never 3 refused)
for-memory bytes Body never refused = absurd (never 4 refused)
for-memory bytes Tally never refused = absurd (never 5 refused)
for-memory bytes Memory never refused = refl

pub saves-never-refused : IsReadByText → (s : LedgerState) → IsSoundLedger s → IsSavable s → NoSaveIsRefused s
saves-never-refused reads s sound savable form bytes error saved refused =
    let loaded : IsLoaded bytes s = subst (λ (l : List ℕ). IsLoaded l s) (sym saved.text) (saves-load form s sound savable) in
    for-memory bytes error (λ number fails. loads-hold reads bytes number s loaded fails) refused
