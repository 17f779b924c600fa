-- The pieces of a save are the saved text.
use Rattle.mv_saved_text.proofs.Common.{[], ◌++◌, ◌∙◌, ◌∷◌, ◌≡◌, List, ap, flat_map, subst, ℕ, LedgerState, IsSoundLedger, IsSavable, IsSavedText, Second}
use Rattle.std.specs.Global.{Vec}
use Rattle.mv_saved_text.specs.Flowing.{left_in, new_save, SavingView, AreGiven, EachSaveFlows}
use Rattle.mv_saved_text.proofs.Saves.SavedLoads.{text-saves}

given-joined : (s : LedgerState) (v : SavingView) (pieces : List (Vec ℕ)) → AreGiven s v pieces → left_in v s ≡ flat_map (λ (p : Vec ℕ). p.items) pieces
given-joined s v [] h = h.1.0
given-joined s v (piece ∷ pieces) h = h.1.0 ∙ ap (λ (l : List ℕ). piece.items ++ l) (given-joined s h.0 pieces h.2)

pub save-flows : (s : LedgerState) → IsSoundLedger s → IsSavable s → EachSaveFlows s
save-flows s sound savable pieces h = subst (λ (l : List ℕ). IsSavedText Second l s) (given-joined s new_save pieces h) (text-saves Second s sound savable)
