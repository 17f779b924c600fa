-- An accepted store gives what the rows rest on.
use Rattle.mv_soundness.proofs.Typing.Common.{◌≡◌, ℕ, suc, ◌+◌, ◌*◌, ◌^◌, ◌<◌, true, List, [], ◌∷◌, length, refl, ap, subst, ◌∙◌, arith, ◌++◌, Option, Some, None, Bool, ltb-true, lt-ltb}
use Rattle.mv_soundness.proofs.Typing.Common.{eqb-true, and_from, pow-add, same_Some, first_so, second_so, list_all, IsTrue, ◌==◌, ◌&&◌, slice_get, nat_lt, slice_index, is_some, Module}
use Rattle.mv_soundness.proofs.Typing.Common.{FunctionDefinition, local_tokens, Constant, leaf_number, width_bits, LeafKind, Address, Boolean, Number, Signer, Token, Plain, OfLeaf, Here}
use Rattle.mv_soundness.proofs.Typing.Common.{below, function_in, instruction_in, local_count, token_in, ends_well, on_bind, function_definition_fits, instruction_fits, is_byte}
use Rattle.mv_soundness.proofs.Typing.Common.{is_index, constant_fits, token_fits, all_at, structs_are_there, function_is_typed, StoreAccepted, ModuleAccepted, SoundStore, Named}
use Rattle.mv_soundness.proofs.Typing.Common.{ConstantFacts, in_range}
use Rattle.mv_move_types.specs.Numbers.{little_endian}
use Rattle.mv_signatures.specs.Signatures.{is_constant}
use Rattle.mv_soundness.proofs.{Typing.Operands.on_test, Typing.Advances.advances, Typing.Names.token_there, Typing.Names.tag_is_found, Typing.OwnDefinitions.own_facts}
use Rattle.mv_soundness.proofs.{Typing.Callees.call_facts}

all_append : {A : Type 0} (p : A → Bool) (xs ys : List A) → list_all p xs ≡ true → list_all p ys ≡ true → list_all p (xs ++ ys) ≡ true
all_append p [] ys h k = k
all_append p (x ∷ xs) ys h k = and_from _ _ (first_so (p x) (list_all p xs) h) (all_append p xs ys (second_so (p x) (list_all p xs) h) k)

-- a local's type has a tag
local_named : (m : Module) (d : FunctionDefinition) → ModuleAccepted m → (tokens : List Token) (l : ℕ) (t : Token) → local_tokens m d ≡ Some tokens → slice_get tokens l ≡ Some t → Named m t
local_named m d a tokens l t e g =
    on_bind (slice_get m.function_handles d.handle) _ tokens e (λ handle handle_is e1.
    on_bind (slice_get m.signatures handle.parameters) _ tokens e1 (λ ps ps_is e2.
    on_bind (slice_get m.signatures d.locals) _ tokens e2 (λ os os_is e3.
    let first = all_at (list_all (token_in m)) m.signatures handle.parameters ps a.bounds.signatures ps_is in
    let second = all_at (list_all (token_in m)) m.signatures d.locals os a.bounds.signatures os_is in
    let all : list_all (token_in m) tokens ≡ true = subst (λ (ts : List Token). list_all (token_in m) ts ≡ true) (same_Some (ps ++ os) tokens e3) (all_append (token_in m) ps os first second) in
    token_there m a.bounds t (all_at (token_in m) tokens l t all g))))

-- constants of bytes
little_bound : (bs : List ℕ) → list_all is_byte bs ≡ true → little_endian bs < 2 ^ (8 * length bs)
little_bound [] h = omega arith
little_bound (b ∷ bs) h =
    let byte : b < 256 = ltb-true b 256 (first_so (is_byte b) (list_all is_byte bs) h) in
    let rest : little_endian bs < 2 ^ (8 * length bs) = little_bound bs (second_so (is_byte b) (list_all is_byte bs) h) in
    let eight : 8 * suc (length bs) ≡ 8 + 8 * length bs = omega arith in
    let power : 2 ^ (8 * suc (length bs)) ≡ 256 * 2 ^ (8 * length bs) = ap (λ (n : ℕ). 2 ^ n) eight ∙ pow-add 2 8 (8 * length bs) in
    omega (arith, byte, rest, power)

-- the address of 16 bytes fits: what is left to show of a constant
abbrev pub AddressesFit : List Module → Type 0
AddressesFit modules =
    (place i : ℕ) (m : Module) (c : Constant) (n : ℕ) → slice_get modules place ≡ Some m → slice_get m.constants i ≡ Some c → leaf_number Address c.bytes ≡ Some n → IsTrue (in_range Address n)

constant_facts : (m : Module) (a : ModuleAccepted m)
    → ((i : ℕ) (c : Constant) (n : ℕ) → slice_get m.constants i ≡ Some c → leaf_number Address c.bytes ≡ Some n → IsTrue (in_range Address n))
    → (i : ℕ) (c : Constant) → slice_get m.constants i ≡ Some c → ConstantFacts c
constant_facts m a addresses i c c_at = by_token c.token c.bytes refl (all_at is_constant m.constants i c a.signed.constants c_at) bytes (λ n e. addresses i c n c_at e)
  where
    written : constant_fits m.version c ≡ true
    written = all_at (constant_fits m.version) m.constants i c a.text.constants c_at

    bytes : list_all is_byte c.bytes ≡ true
    bytes = second_so (token_fits m.version c.token && is_index (length c.bytes)) (list_all is_byte c.bytes) written

    fits : (kind : LeafKind) (n : ℕ) → leaf_number kind c.bytes ≡ Some n → list_all is_byte c.bytes ≡ true
        → ((n : ℕ) → leaf_number Address c.bytes ≡ Some n → IsTrue (in_range Address n)) → IsTrue (in_range kind n)
    fits Boolean n e b f =
        on_test ((length c.bytes == 1) && nat_lt (slice_index c.bytes 0) 2) (slice_index c.bytes 0) n e (λ test same.
        subst (λ (x : ℕ). nat_lt x 2 ≡ true) same (second_so (length c.bytes == 1) (nat_lt (slice_index c.bytes 0) 2) test))
    fits (Number w) n e b f =
        on_test (8 * length c.bytes == width_bits w) (little_endian c.bytes) n e (λ test same.
        let wide : 8 * length c.bytes ≡ width_bits w = eqb-true (8 * length c.bytes) (width_bits w) test in
        let bound : little_endian c.bytes < 2 ^ width_bits w = subst (λ (x : ℕ). little_endian c.bytes < 2 ^ x) wide (little_bound c.bytes b) in
        subst (λ (x : ℕ). nat_lt x (2 ^ width_bits w) ≡ true) same (lt-ltb (little_endian c.bytes) (2 ^ width_bits w) bound))
    fits Address n e b f = f n e
    fits Signer n e b f = absurd cc

    by_kind : (kind : LeafKind) (r : Option ℕ) → c.token ≡ Plain (OfLeaf kind) → leaf_number kind c.bytes ≡ r → is_some r ≡ true
        → list_all is_byte c.bytes ≡ true → ((n : ℕ) → leaf_number Address c.bytes ≡ Some n → IsTrue (in_range Address n)) → ConstantFacts c
    by_kind kind None t e h b f = absurd cc
    by_kind kind (Some n) t e h b f = record { kind = kind; number = n; is_leaf = t; is_number = e; fits = fits kind n e b f }

    by_token : (t : Token) (bs : List ℕ) → c.token ≡ t → is_constant (record { token = t; bytes = c.bytes }) ≡ true → list_all is_byte c.bytes ≡ true
        → ((n : ℕ) → leaf_number Address c.bytes ≡ Some n → IsTrue (in_range Address n)) → ConstantFacts c
    by_token (Plain (OfLeaf kind)) bs e h b f = by_kind kind (leaf_number kind c.bytes) e refl h b f
    by_token t bs e h b f = absurd cc

-- an accepted store is sound for types
pub sound_store : (modules : List Module) → StoreAccepted modules → AddressesFit modules → SoundStore modules
sound_store modules store addresses = record {
  facts = λ home function s home_at function_at.
      let h : Here = record { modules = modules; home = home; function = function; state = s } in
      let a : ModuleAccepted home = store.each s.top.function.place home home_at in
      let links = all_at (λ m. structs_are_there modules m 0 m.struct_handles) modules s.top.function.place home store.links.structs home_at in
      record {
        tag = tag_is_found modules home links;
        local_names = local_named home function a;
        own = own_facts h store home_at;
        call = call_facts h store home_at;
        constant = constant_facts home a (λ i c n c_at e. addresses s.top.function.place i home c n home_at c_at e);
      };
  advance = λ place index at m d types m_at d_at typed.
      let a : ModuleAccepted m = store.each place m m_at in
      let inside = all_at (function_in m) m.functions index d a.bounds.functions d_at in
      let code_inside = second_so (below d.handle m.function_handles && below d.locals m.signatures && list_all (λ i. below i m.structs) d.acquires)
      (list_all (instruction_in m (local_count m d) (length d.code)) d.code) inside in
      let written = all_at (function_definition_fits m.version) m.functions index d a.text.functions d_at in
      advances m d (all_at (function_is_typed m) m.functions index d a.types d_at) (all_at (λ (d : FunctionDefinition). ends_well d.code) m.functions index d a.flow d_at) code_inside
      (second_so _ (list_all (instruction_fits m.version) d.code) written) at types typed;
}
