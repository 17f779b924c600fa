-- The text of a stored value is read as its key and leaves, and what is read is such a text.
use Rattle.mv_saved_text.proofs.Common.{[], ◌++◌, ◌∙◌, ◌∷◌, ◌≡◌, IsTrue, List, None, Option, Some, ap, append_assoc, refl, subst, sym, ℕ, some_pair_parts, unwrap_or, Module, Definition, Key, LeafKind}
use Rattle.mv_saved_text.proofs.Common.{uleb, address-parts, address-whole, Front, Front-from, Front-join, index-parts, index-whole, on_bind, address_text, address_fits, is_index, AreBytes}
use Rattle.mv_saved_text.proofs.Common.{address_from, index_from, FlatEntry, AreLeaves, coded, kinds_under, entry_from, leaves_from, leaf_from, leaf_bytes}
use Rattle.mv_saved_text.specs.Parts.BodyParts.{struct_from}
use Rattle.mv_ledger_state.proofs.ShapesOfArguments.{leaf-parts, leaf-whole}
use Rattle.mv_saved_text.specs.Parts.Saving.{struct_under}

-- ---- leaves

pub leaves-parts : (kinds : List LeafKind) (bytes rest words : List ℕ) → AreBytes bytes → leaves_from kinds bytes ≡ Some (words, rest) → Front (coded kinds words) bytes rest × AreLeaves kinds words
leaves-parts [] bytes rest words ok e =
    let p = some_pair_parts [] words bytes rest e in
    subst (λ (z : List ℕ). Front (coded [] z) bytes rest × AreLeaves [] z) p.0 (Front-from [] bytes rest ok p.1, tt)
leaves-parts (kind ∷ kinds) bytes rest words ok e =
    on_bind (leaf_from kind bytes) _ (words, rest) e (λ n n_is e1.
    on_bind (leaves_from kinds n.1) _ (words, rest) e1 (λ more more_is e2.
    let p = leaf-parts kind bytes n.1 n.0 ok n_is in
    let q = leaves-parts kinds n.1 more.1 more.0 p.0.left more_is in
    let s = some_pair_parts (n.0 ∷ more.0) words more.1 rest e2 in
    subst (λ (z : List ℕ). Front (coded (kind ∷ kinds) z) bytes rest × AreLeaves (kind ∷ kinds) z) s.0
    (subst (λ (z : List ℕ). Front (leaf_bytes kind n.0 ++ coded kinds more.0) bytes z) s.1 (Front-join (leaf_bytes kind n.0) (coded kinds more.0) bytes n.1 more.1 p.0 q.0), (p.1, q.1))))

pub leaves-whole : (kinds : List LeafKind) (words rest : List ℕ) → AreLeaves kinds words → leaves_from kinds (coded kinds words ++ rest) ≡ Some (words, rest)
leaves-whole [] [] rest h = refl
leaves-whole (kind ∷ kinds) (n ∷ words) rest h =
    rw (append_assoc (leaf_bytes kind n) (coded kinds words) rest, leaf-whole kind (coded kinds words ++ rest) n h.0, leaves-whole kinds words rest h.1) refl
leaves-whole _ _ _ h = absurd h

-- ---- a stored value

-- its place and index, where they are written
abbrev pub known_text : Option Definition → Key → List ℕ
known_text (Some d) k = []
known_text None k = uleb k.place ++ uleb k.index

-- a stored value: its address, its struct where it is not known, and its leaves
abbrev pub entry_text : List Module → Option Definition → FlatEntry → List ℕ
entry_text modules of e = address_text e.key.address ++ known_text of e.key ++ coded (unwrap_or (kinds_under modules (struct_under e.key)) []) e.words

-- its struct is the known one, or can be written
abbrev pub IsKnown : Option Definition → Key → Type 0
IsKnown (Some d) k = struct_under k ≡ d
IsKnown None k = IsTrue (is_index k.place) × IsTrue (is_index k.index)

-- a stored value that can be written: its words are leaves of its struct's kinds
pub record IsEntry (modules : List Module) (of : Option Definition) (e : FlatEntry) : Type 0 where
  pub kinds : List LeafKind
  pub kinds_are : kinds_under modules (struct_under e.key) ≡ Some kinds
  pub leaves : AreLeaves kinds e.words
  pub address : IsTrue (address_fits e.key.address)
  pub known : IsKnown of e.key

-- its struct at the front
struct-parts : (of : Option Definition) (bytes rest : List ℕ) (d : Definition) (address : ℕ) → AreBytes bytes → struct_from of bytes ≡ Some (d, rest)
    → Front (known_text of (record { address = address; place = d.place; index = d.index })) bytes rest × IsKnown of (record { address = address; place = d.place; index = d.index })
struct-parts (Some k) bytes rest d address ok e =
    let p = some_pair_parts k d bytes rest e in
    (Front-from [] bytes rest ok p.1, sym p.0)
struct-parts None bytes rest d address ok e =
    on_bind (index_from bytes) _ (d, rest) e (λ place place_is e1.
    on_bind (index_from place.1) _ (d, rest) e1 (λ index index_is e2.
    let p = index-parts bytes place.1 place.0 ok place_is in
    let q = index-parts place.1 index.1 index.0 p.0.left index_is in
    let s = some_pair_parts (record { place = place.0; index = index.0 }) d index.1 rest e2 in
    subst (λ (z : Definition). Front (uleb z.place ++ uleb z.index) bytes rest × (IsTrue (is_index z.place) × IsTrue (is_index z.index))) s.0
    (subst (λ (z : List ℕ). Front (uleb place.0 ++ uleb index.0) bytes z) s.1 (Front-join (uleb place.0) (uleb index.0) bytes place.1 index.1 p.0 q.0), (p.1, q.1))))

struct-whole : (of : Option Definition) (k : Key) (rest : List ℕ) → IsKnown of k → struct_from of (known_text of k ++ rest) ≡ Some (struct_under k, rest)
struct-whole (Some d) k rest h = ap (λ (z : Definition). Some (z, rest)) (sym h)
struct-whole None k rest h = rw (append_assoc (uleb k.place) (uleb k.index) rest, index-whole (uleb k.index ++ rest) k.place h.0, index-whole rest k.index h.1) refl

-- a stored value at the front
pub entry-parts : (modules : List Module) (of : Option Definition) (bytes rest : List ℕ) (e : FlatEntry) → AreBytes bytes → entry_from modules of bytes ≡ Some (e, rest)
    → Front (entry_text modules of e) bytes rest × IsEntry modules of e
entry-parts modules of bytes rest e ok h =
    on_bind (address_from bytes) _ (e, rest) h (λ a a_is h1.
    on_bind (struct_from of a.1) _ (e, rest) h1 (λ d d_is h2.
    on_bind (kinds_under modules d.0) _ (e, rest) h2 (λ kinds kinds_are h3.
    on_bind (leaves_from kinds d.1) _ (e, rest) h3 (λ words words_are h4.
    let key : Key = record { address = a.0; place = d.0.place; index = d.0.index } in
    let own : FlatEntry = record { key = key; words = words.0 } in
    let p = address-parts bytes a.1 a.0 ok a_is in
    let q = struct-parts of a.1 d.1 d.0 a.0 p.0.left d_is in
    let r = leaves-parts kinds d.1 words.1 words.0 q.0.left words_are in
    let s = some_pair_parts own e words.1 rest h4 in
    let two : Front (address_text a.0 ++ known_text of key) bytes d.1 = Front-join (address_text a.0) (known_text of key) bytes a.1 d.1 p.0 q.0 in
    let three : Front (address_text a.0 ++ known_text of key ++ coded kinds words.0) bytes words.1 = Front-join (address_text a.0 ++ known_text of key) (coded kinds words.0) bytes d.1 words.1 two
    r.0 in
    let text : address_text a.0 ++ known_text of key ++ coded kinds words.0 ≡ entry_text modules of own =
    ap (λ (o : Option (List LeafKind)). address_text a.0 ++ known_text of key ++ coded (unwrap_or o []) words.0) (sym kinds_are) in
    let is : IsEntry modules of own = record { kinds = kinds; kinds_are = kinds_are; leaves = r.1; address = p.1; known = q.1 } in
    subst (λ (z : FlatEntry). Front (entry_text modules of z) bytes rest × IsEntry modules of z) s.0
    (subst (λ (z : List ℕ). Front (entry_text modules of own) bytes z) s.1 (subst (λ (t : List ℕ). Front t bytes words.1) text three), is)))))

-- it is read
pub entry-whole : (modules : List Module) (of : Option Definition) (rest : List ℕ) (e : FlatEntry) → IsEntry modules of e → entry_from modules of (entry_text modules of e ++ rest) ≡ Some (e, rest)
entry-whole modules of rest e h =
    let text : entry_text modules of e ++ rest ≡ address_text e.key.address ++ (known_text of e.key ++ (coded h.kinds e.words ++ rest)) =
    ap (λ (o : Option (List LeafKind)). (address_text e.key.address ++ known_text of e.key ++ coded (unwrap_or o []) e.words) ++ rest) h.kinds_are
    ∙ simp append_assoc in
    ap (entry_from modules of) text
    ∙ rw (
      address-whole (known_text of e.key ++ (coded h.kinds e.words ++ rest)) e.key.address h.address,
      struct-whole of e.key (coded h.kinds e.words ++ rest) h.known,
      h.kinds_are,
      leaves-whole h.kinds e.words rest h.leaves,
    ) refl
