-- What is read of an argument is what was written: its token and its value.
use Rattle.mv_ledger_state.proofs.Common.{[], ◌++◌, ◌^◌, ◌∙◌, ◌∷◌, ◌≡◌, Bool, IsTrue, List, Some, ap, lt-ltb, map, refl, subst, ℕ, and_parts, false≢true, ltb-true, none-some, then_some, list_all, nat_lt}
use Rattle.mv_ledger_state.proofs.Common.{◌>>=◌, width_bits, LeafKind, Address, Boolean, Number, Signer, U128, U16, U32, U64, U8, address-parts, address-whole, number_of-front, number_of-whole, Front}
use Rattle.mv_ledger_state.proofs.Common.{Front-as, Front-join, Parts, Whole, byte-front, on_bind, then_some-parts, leaf_token, byte_from, kind_of, leaf_fits, Leaf, Value, arg_value, Arg, argument_from}
use Rattle.mv_ledger_state.proofs.Common.{leaf_from, argument_fits, argument_text, leaf_bytes}
use Rattle.mv_module_text.proofs.Tokens.{leaf-parts as token-parts}

-- a leaf at the front
pub leaf-parts : (kind : LeafKind) → Parts (leaf_from kind) (leaf_bytes kind) (leaf_fits kind)
leaf-parts Boolean bytes rest v ok e =
    on_bind (byte_from bytes) _ (v, rest) e (λ b b_is e1.
    let p = byte-front b.0 bytes b.1 ok b_is in
    let t = then_some-parts (nat_lt b.0 2) b (v, rest) e1 in
    Front-as (leaf_bytes Boolean) (leaf_fits Boolean) bytes b.1 rest b.0 v (ap Some t.1) p t.0)
leaf-parts (Number w) bytes rest v ok e = let p = number_of-front w v bytes rest ok e in (p.0, lt-ltb v (2 ^ width_bits w) p.1)
leaf-parts Address bytes rest v ok e = address-parts bytes rest v ok e
leaf-parts Signer bytes rest v ok e = absurd (none-some (v, rest) e)

-- a leaf is read
pub leaf-whole : (kind : LeafKind) → Whole (leaf_from kind) (leaf_bytes kind) (leaf_fits kind)
leaf-whole Boolean rest v ok = ap (λ t. then_some t (v, rest)) ok
leaf-whole (Number w) rest v ok = number_of-whole w v rest (ltb-true v (2 ^ width_bits w) ok)
leaf-whole Address rest v ok = address-whole rest v ok
leaf-whole Signer rest v ok = absurd (false≢true ok)

-- the token of a kind of which there are leaves
kind_of-whole : (kind : LeafKind) (n : ℕ) → IsTrue (leaf_fits kind n) → kind_of 6 (leaf_token kind) ≡ Some kind
kind_of-whole Boolean n ok = refl
kind_of-whole (Number U8) n ok = refl
kind_of-whole (Number U16) n ok = refl
kind_of-whole (Number U32) n ok = refl
kind_of-whole (Number U64) n ok = refl
kind_of-whole (Number U128) n ok = refl
kind_of-whole Address n ok = refl
kind_of-whole Signer n ok = absurd (false≢true ok)

-- the text of an argument's value
abbrev pub arg_text : Arg → List ℕ
arg_text a = argument_text (arg_value a)

-- whether it is in its range
abbrev pub arg_fits : Arg → Bool
arg_fits a = argument_fits (arg_value a)

-- an argument at the front
pub argument-parts : Parts argument_from arg_text arg_fits
argument-parts bytes rest v ok e =
    on_bind (byte_from bytes) _ (v, rest) e (λ code code_is e1.
    on_bind (kind_of 6 code.0) _ (v, rest) e1 (λ kind kind_is e2.
    on_bind (leaf_from kind code.1) _ (v, rest) e2 (λ n n_is e3.
    let p = byte-front code.0 bytes code.1 ok code_is in
    let q = leaf-parts kind code.1 n.1 n.0 p.left n_is in
    let token : Front (leaf_token kind ∷ []) bytes code.1 = subst (λ z. Front (z ∷ []) bytes code.1) (token-parts 6 code.0 kind kind_is).0 p in
    Front-as arg_text arg_fits bytes n.1 rest (record { kind = kind; number = n.0 }) v e3
    (Front-join (leaf_token kind ∷ []) (leaf_bytes kind n.0) bytes code.1 n.1 token q.0) q.1)))

-- an argument is read
pub argument-whole : Whole argument_from arg_text arg_fits
argument-whole rest v ok =
    ap (λ r. r >>= λ kind. leaf_from kind (leaf_bytes v.kind v.number ++ rest) >>= λ n. Some (record { kind = kind; number = n.0 }, n.1)) (kind_of-whole v.kind v.number ok)
    ∙ ap (λ r. r >>= λ n. Some (record { kind = v.kind; number = n.0 }, n.1)) (leaf-whole v.kind rest v.number ok)

-- values in their ranges are arguments'
pub args_of : (vs : List Value) → IsTrue (list_all argument_fits vs) → (args : List Arg) × (map arg_value args ≡ vs)
args_of [] ok = ([], refl)
args_of (Leaf kind n ∷ vs) ok =
    let more = args_of vs (and_parts (leaf_fits kind n) (list_all argument_fits vs) ok).1 in
    (record { kind = kind; number = n } ∷ more.0, ap (λ z. Leaf kind n ∷ z) more.1)
args_of _ ok = absurd (false≢true ok)
