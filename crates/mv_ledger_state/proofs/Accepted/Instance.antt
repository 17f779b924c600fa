-- The words at work: a module of a coin, with mint, burn and a function that borrows what is stored, is published over the empty ledger, and its runs are admitted.
use Rattle.mv_ledger_state.proofs.Common.{[], ◌<◌, ◌∙◌, ◌∷◌, ◌≡◌, Bool, List, Ok, Option, Some, ap, arith, false, length, refl, subst, suc, sym, true, zero, ℕ, IsPermutation-refl, ◌&&◌, ◌↔◌, Contains}
use Rattle.mv_ledger_state.proofs.Common.{IsSome, slice_get, slice_index_or, FunctionDefinition, Module, StructDefinition, PublishedModule, CopyLoc, ImmBorrowGlobal, ImmBorrowLoc, MoveFrom, MoveLoc}
use Rattle.mv_ledger_state.proofs.Common.{MoveTo, Pack, Pop, Ret, StLoc, Unpack, Field, Public, Address, Number, Signer, Plain, Reference, OfLeaf, OfStruct, U64, IsReadByText, HasText, IsModuleText}
use Rattle.mv_ledger_state.proofs.Common.{headers_from, ordered_text, tables, Holds, defined_by, directly, further, BasicBlock, IsReached, at_start, blocks, IsSound, AreBytes, LedgerState, Offer}
use Rattle.mv_ledger_state.proofs.Common.{RunRequest, empty_ledger, with_bundle, Leaf, Certificate, Known, certificate_text, IsStore, Reaches, depends_on, depends_at_once, depends_further, IsSoundLedger}
use Rattle.mv_ledger_state.proofs.Common.{IsPublished, Passes}
use Rattle.mv_move_types.specs.declared.borrow.Availability.TheVariants.{Unavailable, Available}
use Rattle.mv_move_types.specs.declared.instruction.Instruction.TheVariants.{Call}
use Rattle.mv_uleb.specs.Uleb.{uleb}
use Rattle.mv_certificate_rules.specs.LocalsRules.{locals_after}
use Rattle.mv_type_rules.specs.TypeRules.{types_after}
use Rattle.mv_certificate_rules.specs.BorrowRules.{edges_after}
use Rattle.mv_machine.specs.Ledger.{admitted}
use Rattle.mv_certificate_rules.specs.Shape.{StatedFits, AllStatedFit, known_fits}
use Rattle.mv_ledger_state.proofs.Accepted.Stores.{published_store}
use Rattle.mv_ledger_state.proofs.Accepted.Sound.{RunFits, empty_sound, published_sound}

-- mint, burn, and a function that looks at a coin and then burns it
abbrev pub coins : Module
coins = record {
  version = 5;
  module_handles = record { address = 0; name = 0 } ∷ [];
  struct_handles = record { «module» = 0; name = 1; abilities = record { copy = false; drop = false; store = true; key = true } } ∷ [];
  function_handles = record { «module» = 0; name = 3; parameters = 1; results = 0 } ∷ record { «module» = 0; name = 4; parameters = 2; results = 0 } ∷ record
      { «module» = 0; name = 0; parameters = 2; results = 0 } ∷ [];
  signatures = [] ∷ (Plain (OfLeaf Signer) ∷ Plain (OfLeaf (Number U64)) ∷ []) ∷ (Plain (OfLeaf Address) ∷ []) ∷ (Reference (OfStruct 0) ∷ []) ∷ [];
  constants = [];
  identifiers = (77 ∷ []) ∷ (67 ∷ 111 ∷ 105 ∷ 110 ∷ []) ∷ (118 ∷ []) ∷ (109 ∷ 105 ∷ 110 ∷ 116 ∷ []) ∷ (98 ∷ 117 ∷ 114 ∷ 110 ∷ []) ∷ [];
  addresses = 1 ∷ [];
  structs = record { handle = 0; fields = record { name = 2; token = Plain (OfLeaf (Number U64)) } ∷ [] } ∷ [];
  functions = record { handle = 0; visibility = Public; is_entry = true; acquires = []; locals = 0; code = ImmBorrowLoc 0 ∷ MoveLoc 1 ∷ Pack 0 ∷ MoveTo 0 ∷ Ret ∷ [] }
      ∷ record { handle = 1; visibility = Public; is_entry = true; acquires = 0 ∷ []; locals = 0; code = MoveLoc 0 ∷ MoveFrom 0 ∷ Unpack 0 ∷ Pop ∷ Ret ∷ [] }
      ∷ record { handle = 2; visibility = Public; is_entry = true; acquires = 0 ∷ []; locals = 3; code = CopyLoc 0 ∷ ImmBorrowGlobal 0 ∷ StLoc 1 ∷ MoveLoc 1 ∷ Pop ∷ CopyLoc 0 ∷ Call 1 ∷ Ret ∷ [] } ∷
      [];
  field_handles = record { definition = 0; position = 0 } ∷ [];
  own = 0;
}

-- its certificate: nothing is borrowed where its blocks begin
abbrev pub coins_certificate : Certificate
coins_certificate = (Some (record { locals = Available ∷ Available ∷ []; edges = [] }) ∷ []) ∷ (Some (record { locals = Available ∷ []; edges = [] }) ∷ []) ∷
    (Some (record { locals = Available ∷ Unavailable ∷ []; edges = [] }) ∷ []) ∷ []

abbrev pub offer : Offer
offer = record { text = ordered_text coins; certificate = certificate_text coins_certificate }

abbrev pub published : PublishedModule
published = record { text = ordered_text coins; certificate = certificate_text coins_certificate; tables = coins }

coins_fit : HasText coins
unfolding uleb
coins_fit = record {
  version = refl;
  module_handles = refl;
  struct_handles = refl;
  function_handles = refl;
  signatures = refl;
  constants = refl;
  identifiers = refl;
  addresses = refl;
  structs = refl;
  functions = refl;
  few_functions = refl;
  field_handles = refl;
  own = refl;
  size = refl;
}

coins_bytes : AreBytes (ordered_text coins)
unfolding uleb
coins_bytes = refl

coins_text : IsModuleText (ordered_text coins) coins
coins_text = record {
  contents = tables coins;
  headers = headers_from 0 (tables coins);
  tiled = IsPermutation-refl (tables coins);
  listed = IsPermutation-refl
      (headers_from 0 (tables coins));
  text = refl;
  fits = coins_fit;
}

abbrev coin_struct : StructDefinition
coin_struct = record { handle = 0; fields = record { name = 2; token = Plain (OfLeaf (Number U64)) } ∷ [] }

the_struct : (i : ℕ) (d : StructDefinition) → slice_get (coin_struct ∷ []) i ≡ Some d → coin_struct ≡ d
the_struct zero d e = cc
the_struct (suc i) d e = absurd cc

the_field : (k : ℕ) (x f : Field) → k < length (x ∷ []) → slice_index_or (x ∷ []) k f ≡ f → x ≡ f
the_field zero x f h e = e
the_field (suc k) x f h e = absurd (omega (arith, h))

-- a field of a number leads nowhere
holds_nothing : (i j : ℕ) → Holds coins i j → ⊥
holds_nothing i j (directly _ _ d f d_at f_in by) =
    let struct : coin_struct ≡ d = the_struct i d d_at in
    let among : Contains coin_struct.fields f = subst (λ (x : StructDefinition). Contains x.fields f) (sym struct) f_in in
    let field : record { name = 2; token = Plain (OfLeaf (Number U64)) } ≡ f = the_field among.0 (record { name = 2; token = Plain (OfLeaf (Number U64)) }) f among.1 among.2 in
    none (subst (λ (x : Field). defined_by coins x.token ≡ Some j) (sym field) by)
  where
    none : defined_by coins (Plain (OfLeaf (Number U64))) ≡ Some j → ⊥
    none e = absurd cc
holds_nothing i j (further _ k _ h g) = holds_nothing i k h

coins_sound : IsSound coins
unfolding types_after
coins_sound = record {
  bounds = record { module_handles = refl; struct_handles = refl; function_handles = refl; signatures = refl; constants = refl; structs = refl; functions = refl; field_handles = refl; own = refl };
  defined = record {
    module_handles = refl;
    signatures = refl;
    constants = refl;
    identifiers = refl;
    addresses = refl;
    field_handles = refl;
    struct_handles = refl;
    function_handles = refl;
    structs = refl;
    functions = refl;
    field_names = refl;
    fields = refl;
    finite = λ i h. holds_nothing i i h;
  };
  signed = record { fields = refl; handles = refl; locals = refl; constants = refl; entries = refl };
  abilities = refl;
  flow = refl;
  types = refl;
}

-- ---- its certificate

-- one block, which is reached, and what is stated of it
one_block : (m : Module) (d : FunctionDefinition) (b : BasicBlock) (k : Known) → blocks d.code ≡ b ∷ [] → b.first ≡ 0 → known_fits m d k ≡ true → StatedFits m d (Some k ∷ [])
one_block m d b k one first fits = record {
  long = ap length (sym one);
  marks = λ i c o c_at o_at. at i c o (subst (λ (bs : List BasicBlock). slice_get bs i ≡ Some c) one c_at) o_at;
  fits = ap (λ (x : Bool). x && true) fits;
}
  where
    at : (i : ℕ) (c : BasicBlock) (o : Option Known) → slice_get (b ∷ []) i ≡ Some c → slice_get (Some k ∷ []) i ≡ Some o → IsSome o ↔ IsReached d.code c.first
    at zero c o c_at o_at =
        let same : b ≡ c = cc in
        let known : Some k ≡ o = cc in
        ((λ h. subst (IsReached d.code) (sym first ∙ ap (λ (x : BasicBlock). x.first) same) at_start), (λ h. subst IsSome known refl))
    at (suc i) c o c_at o_at = absurd cc

coins_stated : AllStatedFit coins coins.functions coins_certificate
coins_stated = (
  one_block coins (record { handle = 0; visibility = Public; is_entry = true; acquires = []; locals = 0; code = ImmBorrowLoc 0 ∷ MoveLoc 1 ∷ Pack 0 ∷ MoveTo 0 ∷ Ret ∷ [] })
      (record { first = 0; last = 4; next = [] }) (record { locals = Available ∷ Available ∷ []; edges = [] }) refl refl refl,
  (
    one_block coins (record { handle = 1; visibility = Public; is_entry = true; acquires = 0 ∷ []; locals = 0; code = MoveLoc 0 ∷ MoveFrom 0 ∷ Unpack 0 ∷ Pop ∷ Ret ∷ [] })
        (record { first = 0; last = 4; next = [] }) (record { locals = Available ∷ []; edges = [] }) refl refl refl,
    (
      one_block coins (record {
        handle = 2;
        visibility = Public;
        is_entry = true;
        acquires = 0 ∷ [];
        locals = 3;
        code = CopyLoc 0 ∷ ImmBorrowGlobal 0 ∷ StLoc 1 ∷ MoveLoc 1 ∷ Pop ∷ CopyLoc 0 ∷ Call
            1 ∷ Ret ∷ [];
      }) (record { first = 0; last = 7; next = [] }) (record { locals = Available ∷ Unavailable ∷ []; edges = [] }) refl refl refl,
      tt,
    ),
  ),
)

pub coins_pass : Passes offer coins coins_certificate
unfolding types_after locals_after edges_after
coins_pass = record { text = coins_text; sound = coins_sound; certificate = (refl, coins_stated); holds = refl; acquires = refl }

-- ---- it is published

coins_alone : (m n : Module) → Reaches (coins ∷ []) m n → ⊥
coins_alone m n (depends_at_once _ _ here there depends) =
    let first : coins ≡ m = the_module here.0 m here.1 here.2 in
    let second : coins ≡ n = the_module there.0 n there.1 there.2 in
    none (subst (λ (x : Module). depends_on x coins ≡ true) (sym first) (subst (λ (x : Module). depends_on m x ≡ true) (sym second) depends))
  where
    the_module : (k : ℕ) (x : Module) → k < length (coins ∷ []) → slice_index_or (coins ∷ []) k x ≡ x → coins ≡ x
    the_module zero x h e = e
    the_module (suc k) x h e = absurd (omega (arith, h))

    none : depends_on coins coins ≡ true → ⊥
    none e = absurd cc
coins_alone m n (depends_further _ k _ r q) = coins_alone m k r

pub coins_published : IsPublished empty_ledger 1 (offer ∷ []) (published ∷ [])
coins_published = (
  (refl, refl, (coins_certificate, coins_pass), tt),
  record { sent = refl; once = refl; compatible = refl; links = record { modules = refl; structs = refl; functions = refl; ordered = λ m r. coins_alone m m r; small = refl } },
  omega arith,
)

-- the ledger with it
abbrev pub coin_ledger : LedgerState
coin_ledger = with_bundle empty_ledger (published ∷ [])

pub coins_store : IsReadByText → IsStore (published ∷ [])
coins_store reads = published_store reads empty_ledger 1 (offer ∷ []) (published ∷ []) empty_sound.store (coins_bytes, tt) coins_published

pub coin_ledger_sound : IsReadByText → IsSoundLedger coin_ledger
coin_ledger_sound reads = published_sound empty_ledger 1 (offer ∷ []) (published ∷ []) empty_sound (coins_store reads) coins_published

-- a run of mint, within its limits, is admitted
abbrev minting : RunRequest
minting = record { sender = 1; home = record { address = 1; name = 77 ∷ [] }; function = 109 ∷ 105 ∷ 110 ∷ 116 ∷ []; budget = 100; arguments = Leaf (Number U64) 7 ∷ [] }

minting_fits : RunFits minting
minting_fits = record { sender = refl; arguments = (refl, tt) }

minting_admitted : admitted coin_ledger minting ≡ Ok (record { function = record { place = 0; index = 0 }; arguments = Leaf Signer 1 ∷ Leaf (Number U64) 7 ∷ [] })
unfolding admitted
minting_admitted = refl
