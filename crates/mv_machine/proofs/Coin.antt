-- Worked runs of the coin module, by computation.
use Rattle.mv_machine.proofs.Common.{[], ◌∷◌, ◌≡◌, false, refl, true, Module, StructName, ImmBorrowLoc, MoveLoc, MoveTo, Pack, Ret, Public, Number, Signer, Plain, OfLeaf, U64, Aborted}
use Rattle.mv_machine.proofs.Common.{Exhausted, FunctionCall, Returned, run, Storage, Leaf, More, NoMore, Struct, AlreadyThere}
use Rattle.mv_machine.specs.declared.Stop.TheVariants.{Steps}
use Rattle.mv_machine.proofs.Computed.{computed}

-- the module of a coin, with mint
abbrev pub coin_module : Module
coin_module = record {
  version = 5;
  module_handles = record { address = 0; name = 0 } ∷ [];
  struct_handles = record { «module» = 0; name = 1; abilities = record { copy = false; drop = false; store = true; key = true } } ∷ [];
  function_handles = record { «module» = 0; name = 3; parameters = 1; results = 0 } ∷ [];
  signatures = [] ∷ (Plain (OfLeaf Signer) ∷ Plain (OfLeaf (Number U64)) ∷ []) ∷ [];
  constants = [];
  identifiers = (77 ∷ []) ∷ (67 ∷ 111 ∷ 105 ∷ 110 ∷ []) ∷ (118 ∷ []) ∷ (109 ∷ 105 ∷ 110 ∷ 116 ∷ []) ∷ [];
  addresses = 1 ∷ [];
  structs = record { handle = 0; fields = record { name = 2; token = Plain (OfLeaf (Number U64)) } ∷ [] } ∷ [];
  functions = record { handle = 0; visibility = Public; is_entry = true; acquires = []; locals = 0; code = ImmBorrowLoc 0 ∷ MoveLoc 1 ∷ Pack 0 ∷ MoveTo 0 ∷ Ret ∷ [] } ∷ [];
  field_handles = [];
  own = 0;
}

abbrev pub coin : StructName
coin = record { home = record { address = 1; name = 77 ∷ [] }; name = 67 ∷ 111 ∷ 105 ∷ 110 ∷ [] }

abbrev pub mint : FunctionCall
mint = record { function = record { place = 0; index = 0 }; arguments = Leaf Signer 1 ∷ Leaf (Number U64) 7 ∷ [] }

abbrev pub one_coin : Storage
one_coin = record { key = record { address = 1; place = 0; index = 0 }; value = Struct coin (More (Leaf (Number U64) 7) NoMore) } ∷ []

mint_returns : run (coin_module ∷ []) [] mint 100 ≡ Returned 5 one_coin (record { is_pack = true; struct = coin; by = coin.home } ∷ [])
unfolding computed
mint_returns = refl

mint_twice : run (coin_module ∷ []) one_coin mint 100 ≡ Aborted AlreadyThere 0 4
unfolding computed
mint_twice = refl

mint_stops : run (coin_module ∷ []) [] mint 4 ≡ Exhausted Steps 4
unfolding computed
mint_stops = refl
