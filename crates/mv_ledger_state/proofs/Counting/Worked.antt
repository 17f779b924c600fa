-- The words at work: the store of the coin module alone, its mint, and a storage with one coin.
use Rattle.mv_ledger_state.proofs.Common.{[], ◌∷◌, false, refl, true, ImmBorrowLoc, MoveLoc, MoveTo, Pack, Ret, Public, coin, coin_module, mint, one_coin, IsEntryCall, IsFineStorage, IsAbleStore}
use Rattle.mv_ledger_state.proofs.Common.{IsScarce}
use Rattle.mv_ledger_state.proofs.Counting.Tallied.{AreBalanced}

coin_store : IsAbleStore (coin_module ∷ [])
coin_store = record { able = (refl, tt); structs = refl; entries = (refl, tt) }

coin_scarce : IsScarce (coin_module ∷ []) coin
coin_scarce = record { abilities = record { copy = false; drop = false; store = true; key = true }; is_declared = refl; copy = refl; drop = refl }

mint_entry : IsEntryCall (coin_module ∷ []) mint
mint_entry = record {
  home = coin_module;
  function = record {
    handle = 0;
    visibility = Public;
    is_entry = true;
    acquires = [];
    locals = 0;
    code = ImmBorrowLoc 0 ∷ MoveLoc 1 ∷ Pack 0 ∷ MoveTo
        0 ∷ Ret ∷ [];
  };
  home_is = refl;
  function_is = refl;
  is_entry = refl;
  leaves = (tt, (tt, tt));
}

coins_fine : IsFineStorage (coin_module ∷ []) one_coin
coins_fine = record { kept = ((record { copy = false; drop = false; store = true; key = true }, refl, (record { copy = λ h. absurd cc; drop = λ h. refl }, tt, tt)), tt); ascending = (tt, tt) }

coins_balanced : AreBalanced (coin_module ∷ []) one_coin (record { struct = coin; packs = 1; unpacks = 0 } ∷ [])
coins_balanced = record { tallied = refl; balanced = (refl, tt) }
