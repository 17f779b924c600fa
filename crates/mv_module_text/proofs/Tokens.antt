-- What is read is what was written: types, signatures, fields and constants.
use Rattle.std.proofs.Common.{◌≡◌, ℕ, List, [], ◌∷◌, ◌++◌, length, arith, refl, ap, sym, ◌∙◌, subst, append_assoc, Some, IsTrue, Bool, not, cond, eqb, ◌&&◌, ◌||◌, ◌⊎◌, inl, inr, ne_eqb, eq-eqb}
use Rattle.std.specs.Prelude.{◌==◌, find}
use Rattle.std.specs.List.{list_all}
use Rattle.std.proofs.lemmas.Bool.{cases_eq, and_parts, and_from, eqb-true}
use Rattle.mv_uleb.specs.Uleb.{uleb}
use Rattle.mv_move_types.specs.Options.{◌>>=◌}
use Rattle.mv_move_types.specs.declared.token.Width.TheVariants.{U8, U16, U32}
use Rattle.mv_move_types.specs.declared.token.LeafKind.{LeafKind}
use Rattle.mv_move_types.specs.declared.token.LeafKind.TheVariants.{Number}
use Rattle.mv_move_types.specs.declared.token.ValueType.{ValueType}
use Rattle.mv_move_types.specs.declared.token.ValueType.TheVariants.{OfLeaf, OfStruct}
use Rattle.mv_move_types.specs.declared.token.Token.{Token}
use Rattle.mv_move_types.specs.declared.token.Token.TheVariants.{Plain, Reference, MutableReference}
use Rattle.mv_module_text.specs.Entries.{leaf_token, value_type_text, token_text, signature_text, field_text, constant_text}
use Rattle.mv_module_text.specs.Fits.{is_index, is_byte, value_type_fits, token_fits, signature_fits, field_fits, constant_fits}
use Rattle.mv_module_text.specs.Parsing.{index_from, byte_from, bytes_from, LeafRow, leaf_rows, is_leaf_row_of, kind_of, value_type_by}
use Rattle.mv_module_text.specs.Parsing.{value_type_from, token_by, token_from, signature_from, field_from, constant_from}
use Rattle.mv_module_text.specs.Laws.{AreBytes}
use Rattle.mv_module_text.proofs.Rows.{each_same, find-some, on_map}
use Rattle.mv_module_text.proofs.Texts.{Front, Parts, Whole, on_bind, Front-join, Front-as, index-parts, index-whole, byte-front, bytes-front, bytes-whole, bytes_after, counted-parts, counted-whole}

-- what a test of two numbers chose
pub cond-parts : {A : Type 0} (a b : ℕ) (x y r : A) → cond (eqb a b) x y ≡ r → ((a ≡ b) × (x ≡ r)) ⊎ (y ≡ r)
cond-parts a b x y r e =
    elim (cases_eq a b) [
      | inl same ↦ inl (same, sym (ap (λ t. cond t x y) (eq-eqb a b same)) ∙ e)
      | inr ne ↦ inr (sym (ap (λ t. cond t x y) (ne_eqb a b ne)) ∙ e)
    ]

-- the token of a row's type, and whether a version has the type
abbrev meant : LeafRow → ℕ × (ℕ → Bool)
meant r = (leaf_token r.kind, λ version. value_type_fits version (OfLeaf r.kind))

-- the row's own
abbrev told : LeafRow → ℕ × (ℕ → Bool)
told r = (r.code, λ version. not r.is_late || version == 6)

-- a leaf type by its token
pub leaf-parts : (version code : ℕ) (kind : LeafKind) → kind_of version code ≡ Some kind → (code ≡ leaf_token kind) × IsTrue (value_type_fits version (OfLeaf kind))
leaf-parts version code kind e =
    on_map (find (is_leaf_row_of version code) leaf_rows) (λ (r : LeafRow). r.kind) kind e (λ r r_is kind_is.
    let p = find-some (λ r. meant r ≡ told r) (is_leaf_row_of version code) leaf_rows r (each_same meant told leaf_rows refl) r_is in
    let q = and_parts (r.code == code) (not r.is_late || version == 6) p.1 in
    subst (λ z. (code ≡ leaf_token z) × IsTrue (value_type_fits version (OfLeaf z))) kind_is
    (sym (ap (λ z. z.0) p.0 ∙ eqb-true r.code code q.0), ap (λ z. z.1 version) p.0 ∙ q.1))

-- a token is its leaf type's
pub leaf-whole : (version : ℕ) (kind : LeafKind) → IsTrue (value_type_fits version (OfLeaf kind)) → kind_of version (leaf_token kind) ≡ Some kind
leaf-whole version (Number U16) ok = subst (λ z. kind_of z 0x0D ≡ Some (Number U16)) (sym (eqb-true version 6 ok)) refl
leaf-whole version (Number U32) ok = subst (λ z. kind_of z 0x0E ≡ Some (Number U32)) (sym (eqb-true version 6 ok)) refl
leaf-whole version kind ok = refl

-- a type that is no reference, by its token
value_type_by-parts : (version code : ℕ) (bytes more rest : List ℕ) (t : ValueType) → Front (code ∷ []) bytes more → value_type_by version code more ≡ Some (t, rest)
    → Front (value_type_text t) bytes rest × IsTrue (value_type_fits version t)
value_type_by-parts version code bytes more rest t front e =
    elim (cond-parts code 0x08 (index_from more >>= λ i. Some (OfStruct i.0, i.1)) (kind_of version code >>= λ kind. Some (OfLeaf kind, more)) (Some (t, rest)) e) [
      | inl p ↦ on_bind (index_from more) _ (t, rest) p.1 (λ i i_is e1.
          let q = index-parts more i.1 i.0 front.left i_is in
          Front-as value_type_text (value_type_fits version) bytes i.1 rest (OfStruct i.0) t e1
          (Front-join (0x08 ∷ []) (uleb i.0) bytes more i.1 (subst (λ z. Front (z ∷ []) bytes more) p.0 front) q.0) q.1)
      | inr q ↦ on_bind (kind_of version code) _ (t, rest) q (λ kind kind_is e1.
          let p = leaf-parts version code kind kind_is in
          Front-as value_type_text (value_type_fits version) bytes more rest (OfLeaf kind) t e1 (subst (λ z. Front (z ∷ []) bytes more) p.0 front) p.1)
    ]

value_type-parts : (version : ℕ) → Parts (value_type_from version) value_type_text (value_type_fits version)
value_type-parts version bytes rest t ok e =
    on_bind (byte_from bytes) _ (t, rest) e (λ code code_is e1.
    value_type_by-parts version code.0 bytes code.1 rest t (byte-front code.0 bytes code.1 ok code_is) e1)

-- a type by its token
token_by-parts : (version code : ℕ) (bytes more rest : List ℕ) (t : Token) → Front (code ∷ []) bytes more → token_by version code more ≡ Some (t, rest)
    → Front (token_text t) bytes rest × IsTrue (token_fits version t)
token_by-parts version code bytes more rest t front e =
    elim (cond-parts code 0x06 (value_type_from version more >>= λ v. Some (Reference v.0, v.1)) _ (Some (t, rest)) e) [
      | inl p ↦ on_bind (value_type_from version more) _ (t, rest) p.1 (λ v v_is e1.
          let q = value_type-parts version more v.1 v.0 front.left v_is in
          Front-as token_text (token_fits version) bytes v.1 rest (Reference v.0) t e1
          (Front-join (0x06 ∷ []) (value_type_text v.0) bytes more v.1 (subst (λ z. Front (z ∷ []) bytes more) p.0 front) q.0) q.1)
      | inr e2 ↦ elim (cond-parts code 0x07 (value_type_from version more >>= λ v. Some (MutableReference v.0, v.1)) _ (Some (t, rest)) e2) [
        | inl p ↦ on_bind (value_type_from version more) _ (t, rest) p.1 (λ v v_is e1.
            let q = value_type-parts version more v.1 v.0 front.left v_is in
            Front-as token_text (token_fits version) bytes v.1 rest (MutableReference v.0) t e1
            (Front-join (0x07 ∷ []) (value_type_text v.0) bytes more v.1 (subst (λ z. Front (z ∷ []) bytes more) p.0 front) q.0) q.1)
        | inr e3 ↦ on_bind (value_type_by version code more) _ (t, rest) e3 (λ v v_is e1.
            let q = value_type_by-parts version code bytes more v.1 v.0 front v_is in
            Front-as token_text (token_fits version) bytes v.1 rest (Plain v.0) t e1 q.0 q.1)
      ]
    ]

pub token-parts : (version : ℕ) → Parts (token_from version) token_text (token_fits version)
token-parts version bytes rest t ok e =
    on_bind (byte_from bytes) _ (t, rest) e (λ code code_is e1.
    token_by-parts version code.0 bytes code.1 rest t (byte-front code.0 bytes code.1 ok code_is) e1)

-- a leaf type's token marks neither a struct nor a reference
leaf_value : (version : ℕ) (kind : LeafKind) (rest : List ℕ)
    → value_type_by version (leaf_token kind) rest ≡ (kind_of version (leaf_token kind) >>= λ k. Some (OfLeaf k, rest))
leaf_value version (Number U8) rest = refl
leaf_value version kind rest = refl

plain_leaf : (version : ℕ) (kind : LeafKind) (rest : List ℕ)
    → token_by version (leaf_token kind) rest ≡ (value_type_by version (leaf_token kind) rest >>= λ t. Some (Plain t.0, t.1))
plain_leaf version (Number U8) rest = refl
plain_leaf version kind rest = refl

value_type-whole : (version : ℕ) → Whole (value_type_from version) value_type_text (value_type_fits version)
value_type-whole version rest (OfLeaf kind) ok =
    leaf_value version kind rest ∙ ap (λ r. r >>= λ k. Some (OfLeaf k, rest)) (leaf-whole version kind ok)
value_type-whole version rest (OfStruct i) ok = ap (λ r. r >>= λ i. Some (OfStruct i.0, i.1)) (index-whole rest i ok)

pub token-whole : (version : ℕ) → Whole (token_from version) token_text (token_fits version)
token-whole version rest (Plain (OfLeaf kind)) ok =
    plain_leaf version kind rest ∙ ap (λ r. r >>= λ t. Some (Plain t.0, t.1)) (value_type-whole version rest (OfLeaf kind) ok)
token-whole version rest (Plain (OfStruct i)) ok = ap (λ r. r >>= λ t. Some (Plain t.0, t.1)) (value_type-whole version rest (OfStruct i) ok)
token-whole version rest (Reference t) ok = ap (λ r. r >>= λ t. Some (Reference t.0, t.1)) (value_type-whole version rest t ok)
token-whole version rest (MutableReference t) ok = ap (λ r. r >>= λ t. Some (MutableReference t.0, t.1)) (value_type-whole version rest t ok)

pub signature-parts : (version : ℕ) → Parts (signature_from version) signature_text (signature_fits version)
signature-parts version = counted-parts 64 (token_from version) token_text (token_fits version) (omega arith) (token-parts version)

pub signature-whole : (version : ℕ) → Whole (signature_from version) signature_text (signature_fits version)
signature-whole version = counted-whole 64 (token_from version) token_text (token_fits version) (omega arith) (token-whole version)

pub field-parts : (version : ℕ) → Parts (field_from version) field_text (field_fits version)
field-parts version bytes rest v ok e =
    on_bind (index_from bytes) _ (v, rest) e (λ n n_is e1.
    on_bind (token_from version n.1) _ (v, rest) e1 (λ t t_is e2.
    let p = index-parts bytes n.1 n.0 ok n_is in
    let q = token-parts version n.1 t.1 t.0 p.0.left t_is in
    Front-as field_text (field_fits version) bytes t.1 rest (record { name = n.0; token = t.0 }) v e2
    (Front-join (uleb n.0) (token_text t.0) bytes n.1 t.1 p.0 q.0) (and_from (is_index n.0) (token_fits version t.0) p.1 q.1)))

pub field-whole : (version : ℕ) → Whole (field_from version) field_text (field_fits version)
field-whole version rest v ok =
    let p = and_parts (is_index v.name) (token_fits version v.token) ok in
    ap (field_from version) (append_assoc (uleb v.name) (token_text v.token) rest)
    ∙ ap (λ r. r >>= λ name. token_from version name.1 >>= λ token. Some (record { name = name.0; token = token.0 }, token.1))
    (index-whole (token_text v.token ++ rest) v.name p.0)
    ∙ ap (λ r. r >>= λ token. Some (record { name = v.name; token = token.0 }, token.1)) (token-whole version rest v.token p.1)

pub constant-parts : (version : ℕ) → Parts (constant_from version) constant_text (constant_fits version)
constant-parts version bytes rest v ok e =
    on_bind (token_from version bytes) _ (v, rest) e (λ t t_is e1.
    on_bind (index_from t.1) _ (v, rest) e1 (λ n n_is e2.
    on_bind (bytes_from n.0 n.1) _ (v, rest) e2 (λ b b_is e3.
    let p = token-parts version bytes t.1 t.0 ok t_is in
    let q = index-parts t.1 n.1 n.0 p.0.left n_is in
    let r = bytes-front n.0 b.0 n.1 b.1 q.0.left b_is in
    let well : AreBytes b.0 = (bytes_after b.0 b.1 (subst AreBytes r.0.text q.0.left)).0 in
    let count : Front (uleb (length b.0)) t.1 n.1 = subst (λ z. Front (uleb z) t.1 n.1) (sym r.1) q.0 in
    let few : IsTrue (is_index (length b.0)) = subst (λ z. IsTrue (is_index z)) (sym r.1) q.1 in
    Front-as constant_text (constant_fits version) bytes b.1 rest (record { token = t.0; bytes = b.0 }) v e3
    (Front-join (token_text t.0 ++ uleb (length b.0)) b.0 bytes n.1 b.1
    (Front-join (token_text t.0) (uleb (length b.0)) bytes t.1 n.1 p.0 count) r.0)
    (and_from (token_fits version t.0 && is_index (length b.0)) (list_all is_byte b.0)
    (and_from (token_fits version t.0) (is_index (length b.0)) p.1 few) well))))

-- three parts before the rest
three : (a b c rest : List ℕ) → (a ++ b ++ c) ++ rest ≡ a ++ (b ++ (c ++ rest))
three a b c rest = simp append_assoc

pub constant-whole : (version : ℕ) → Whole (constant_from version) constant_text (constant_fits version)
constant-whole version rest v ok =
    let p = and_parts (token_fits version v.token && is_index (length v.bytes)) (list_all is_byte v.bytes) ok in
    let q = and_parts (token_fits version v.token) (is_index (length v.bytes)) p.0 in
    ap (constant_from version) (three (token_text v.token) (uleb (length v.bytes)) v.bytes rest)
    ∙ ap (λ r. r >>= λ token. index_from token.1 >>= λ n. bytes_from n.0 n.1 >>= λ content. Some (record { token = token.0; bytes = content.0 }, content.1))
    (token-whole version (uleb (length v.bytes) ++ (v.bytes ++ rest)) v.token q.0)
    ∙ ap (λ r. r >>= λ n. bytes_from n.0 n.1 >>= λ content. Some (record { token = v.token; bytes = content.0 }, content.1))
    (index-whole (v.bytes ++ rest) (length v.bytes) q.1)
    ∙ ap (λ r. r >>= λ content. Some (record { token = v.token; bytes = content.0 }, content.1)) (bytes-whole (length v.bytes) v.bytes rest refl)
