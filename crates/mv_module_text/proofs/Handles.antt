-- What is read is what was written: handles and identifiers.
use Rattle.std.proofs.Common.{◌≡◌, ℕ, ◌≤◌, List, [], ◌∷◌, ◌++◌, length, arith, refl, ap, sym, ◌∙◌, subst, append_assoc, Some, Bool, true, false, eqb, ◌&&◌, nat_le}
use Rattle.std.specs.Bool.{then_some}
use Rattle.std.proofs.lemmas.Bool.{and_parts, and_from, agree_below_at, eqb-true, leb-true}
use Rattle.mv_uleb.specs.Uleb.{uleb}
use Rattle.mv_uleb.specs.Parsing.{number_from}
use Rattle.mv_move_types.specs.Options.{◌>>=◌}
use Rattle.mv_module_text.specs.Entries.{ability_bits, module_handle_text, struct_handle_text, function_handle_text, identifier_text, field_handle_text}
use Rattle.mv_module_text.specs.Fits.{is_index, module_handle_fits, struct_handle_fits, function_handle_fits, identifier_fits, field_handle_fits}
use Rattle.mv_module_text.specs.Parsing.{index_from, mark_from, bytes_from, abilities_of_bits, module_handle_from, struct_handle_from, function_handle_from, identifier_from, field_handle_from}
use Rattle.mv_module_text.proofs.Texts.{Front, Parts, Whole, on_bind, Front-join, Front-as, number-front, number-whole, index-parts, index-whole, mark-front, bytes-front, bytes-whole}
use Rattle.mv_uleb.proofs.Spelled.{then_some-parts}

pub module_handle-parts : Parts module_handle_from module_handle_text module_handle_fits
module_handle-parts bytes rest v ok e =
    on_bind (index_from bytes) _ (v, rest) e (λ a a_is e1.
    on_bind (index_from a.1) _ (v, rest) e1 (λ n n_is e2.
    let p = index-parts bytes a.1 a.0 ok a_is in
    let q = index-parts a.1 n.1 n.0 p.0.left n_is in
    Front-as module_handle_text module_handle_fits bytes n.1 rest (record { address = a.0; name = n.0 }) v e2
    (Front-join (uleb a.0) (uleb n.0) bytes a.1 n.1 p.0 q.0) (and_from (is_index a.0) (is_index n.0) p.1 q.1)))

pub module_handle-whole : Whole module_handle_from module_handle_text module_handle_fits
module_handle-whole rest v ok =
    let p = and_parts (is_index v.address) (is_index v.name) ok in
    ap module_handle_from (append_assoc (uleb v.address) (uleb v.name) rest)
    ∙ rw (index-whole (uleb v.name ++ rest) v.address p.0, index-whole rest v.name p.1) refl

-- the abilities of the bits of abilities
abilities_same : (c d s k : Bool) → abilities_of_bits (ability_bits (record { copy = c; drop = d; store = s; key = k })) ≡ record { copy = c; drop = d; store = s; key = k }
abilities_same true true s k = grind arith
abilities_same true false s k = grind arith
abilities_same false true s k = grind arith
abilities_same false false s k = grind arith

-- the bits are few
bits_few : (c d s k : Bool) → ability_bits (record { copy = c; drop = d; store = s; key = k }) ≤ 15
bits_few c d s k = grind arith

-- the bits of the abilities of bits
bits_same : (n : ℕ) → n ≤ 15 → ability_bits (abilities_of_bits n) ≡ n
bits_same n le =
    eqb-true (ability_bits (abilities_of_bits n)) n
    (agree_below_at (λ m. eqb (ability_bits (abilities_of_bits m)) m) (λ m. true) 16 n refl (omega arith))

pub struct_handle-parts : Parts struct_handle_from struct_handle_text struct_handle_fits
struct_handle-parts bytes rest v ok e =
    on_bind (index_from bytes) _ (v, rest) e (λ a a_is e1.
    on_bind (index_from a.1) _ (v, rest) e1 (λ n n_is e2.
    on_bind (number_from 15 n.1) _ (v, rest) e2 (λ b b_is e3.
    on_bind (mark_from 0 b.1) _ (v, rest) e3 (λ m m_is e4.
    let p = index-parts bytes a.1 a.0 ok a_is in
    let q = index-parts a.1 n.1 n.0 p.0.left n_is in
    let r = number-front 15 b.0 n.1 b.1 (omega arith) q.0.left b_is in
    let s = mark-front 0 b.1 m r.0.left m_is in
    let bits : b.0 ≡ ability_bits (abilities_of_bits b.0) = sym (bits_same b.0 r.1) in
    let t : Front (uleb (ability_bits (abilities_of_bits b.0))) n.1 b.1 = subst (λ z. Front (uleb z) n.1 b.1) bits r.0 in
    let two : Front (uleb a.0 ++ uleb n.0) bytes n.1 = Front-join (uleb a.0) (uleb n.0) bytes a.1 n.1 p.0 q.0 in
    let three : Front (uleb a.0 ++ uleb n.0 ++ uleb (ability_bits (abilities_of_bits b.0))) bytes b.1 =
    Front-join (uleb a.0 ++ uleb n.0) (uleb (ability_bits (abilities_of_bits b.0))) bytes n.1 b.1 two t in
    Front-as struct_handle_text struct_handle_fits bytes m rest (record { «module» = a.0; name = n.0; abilities = abilities_of_bits b.0 }) v e4
    (Front-join (uleb a.0 ++ uleb n.0 ++ uleb (ability_bits (abilities_of_bits b.0))) (0 ∷ []) bytes b.1 m three s)
    (and_from (is_index a.0) (is_index n.0) p.1 q.1)))))

-- four parts before the rest
four : (a b c d rest : List ℕ) → (a ++ b ++ c ++ d) ++ rest ≡ a ++ (b ++ (c ++ (d ++ rest)))
four a b c d rest = simp append_assoc

-- five parts before the rest
five : (a b c d e rest : List ℕ) → (a ++ b ++ c ++ d ++ e) ++ rest ≡ a ++ (b ++ (c ++ (d ++ (e ++ rest))))
five a b c d e rest = simp append_assoc

pub struct_handle-whole : Whole struct_handle_from struct_handle_text struct_handle_fits
struct_handle-whole rest v ok =
    let p = and_parts (is_index v.module) (is_index v.name) ok in
    let few : ability_bits v.abilities ≤ 15 = bits_few v.abilities.copy v.abilities.drop v.abilities.store v.abilities.key in
    let same : abilities_of_bits (ability_bits v.abilities) ≡ v.abilities = abilities_same v.abilities.copy v.abilities.drop v.abilities.store v.abilities.key in
    ap struct_handle_from (four (uleb v.module) (uleb v.name) (uleb (ability_bits v.abilities)) (0 ∷ []) rest)
    ∙ rw (
      index-whole (uleb v.name ++ (uleb (ability_bits v.abilities) ++ 0 ∷ rest)) v.module p.0,
      index-whole (uleb (ability_bits v.abilities) ++ 0 ∷ rest) v.name p.1,
      number-whole 15 (ability_bits v.abilities) (0 ∷ rest) (omega arith) few,
    )
    (ap (λ z. Some (record { «module» = v.module; name = v.name; abilities = z }, rest)) same)

pub function_handle-parts : Parts function_handle_from function_handle_text function_handle_fits
function_handle-parts bytes rest v ok e =
    on_bind (index_from bytes) _ (v, rest) e (λ a a_is e1.
    on_bind (index_from a.1) _ (v, rest) e1 (λ n n_is e2.
    on_bind (index_from n.1) _ (v, rest) e2 (λ b b_is e3.
    on_bind (index_from b.1) _ (v, rest) e3 (λ c c_is e4.
    on_bind (mark_from 0 c.1) _ (v, rest) e4 (λ m m_is e5.
    let p = index-parts bytes a.1 a.0 ok a_is in
    let q = index-parts a.1 n.1 n.0 p.0.left n_is in
    let r = index-parts n.1 b.1 b.0 q.0.left b_is in
    let s = index-parts b.1 c.1 c.0 r.0.left c_is in
    let t = mark-front 0 c.1 m s.0.left m_is in
    let two : Front (uleb a.0 ++ uleb n.0) bytes n.1 = Front-join (uleb a.0) (uleb n.0) bytes a.1 n.1 p.0 q.0 in
    let three : Front (uleb a.0 ++ uleb n.0 ++ uleb b.0) bytes b.1 = Front-join (uleb a.0 ++ uleb n.0) (uleb b.0) bytes n.1 b.1 two r.0 in
    let all : Front (uleb a.0 ++ uleb n.0 ++ uleb b.0 ++ uleb c.0) bytes c.1 = Front-join (uleb a.0 ++ uleb n.0 ++ uleb b.0) (uleb c.0) bytes b.1 c.1 three s.0 in
    Front-as function_handle_text function_handle_fits bytes m rest
    (record { «module» = a.0; name = n.0; parameters = b.0; results = c.0 }) v e5
    (Front-join (uleb a.0 ++ uleb n.0 ++ uleb b.0 ++ uleb c.0) (0 ∷ []) bytes c.1 m all t)
    (and_from (is_index a.0 && is_index n.0 && is_index b.0) (is_index c.0)
    (and_from (is_index a.0 && is_index n.0) (is_index b.0) (and_from (is_index a.0) (is_index n.0) p.1 q.1) r.1) s.1))))))

pub function_handle-whole : Whole function_handle_from function_handle_text function_handle_fits
function_handle-whole rest v ok =
    let p = and_parts (is_index v.module && is_index v.name && is_index v.parameters) (is_index v.results) ok in
    let q = and_parts (is_index v.module && is_index v.name) (is_index v.parameters) p.0 in
    let r = and_parts (is_index v.module) (is_index v.name) q.0 in
    ap function_handle_from (five (uleb v.module) (uleb v.name) (uleb v.parameters) (uleb v.results) (0 ∷ []) rest)
    ∙ rw (
      index-whole (uleb v.name ++ (uleb v.parameters ++ (uleb v.results ++ 0 ∷ rest))) v.module r.0,
      index-whole (uleb v.parameters ++ (uleb v.results ++ 0 ∷ rest)) v.name r.1,
      index-whole (uleb v.results ++ 0 ∷ rest) v.parameters q.1,
      index-whole (0 ∷ rest) v.results p.1,
    ) refl

pub identifier-parts : Parts identifier_from identifier_text identifier_fits
identifier-parts bytes rest v ok e =
    on_bind (number_from 128 bytes) _ (v, rest) e (λ n n_is e1.
    on_bind (bytes_from n.0 n.1) _ (v, rest) e1 (λ name name_is e2.
    let p = number-front 128 n.0 bytes n.1 (omega arith) ok n_is in
    let q = bytes-front n.0 name.0 n.1 name.1 p.0.left name_is in
    let t = then_some-parts (identifier_fits name.0) name (v, rest) e2 in
    let count : Front (uleb (length name.0)) bytes n.1 = subst (λ z. Front (uleb z) bytes n.1) (sym q.1) p.0 in
    Front-as identifier_text identifier_fits bytes name.1 rest name.0 v (ap (λ z. Some z) t.1)
    (Front-join (uleb (length name.0)) name.0 bytes n.1 name.1 count q.0) t.0))

pub identifier-whole : Whole identifier_from identifier_text identifier_fits
identifier-whole rest v ok =
    let p = and_parts (nat_le (length v) 128) _ ok in
    let le : length v ≤ 128 = leb-true (length v) 128 p.0 in
    ap identifier_from (append_assoc (uleb (length v)) v rest)
    ∙ ap (λ r. r >>= λ n. bytes_from n.0 n.1 >>= λ name. then_some (identifier_fits name.0) name) (number-whole 128 (length v) (v ++ rest) (omega arith) le)
    ∙ ap (λ r. r >>= λ name. then_some (identifier_fits name.0) name) (bytes-whole (length v) v rest refl)
    ∙ ap (λ t. then_some t (v, rest)) ok

pub field_handle-parts : Parts field_handle_from field_handle_text field_handle_fits
field_handle-parts bytes rest v ok e =
    on_bind (index_from bytes) _ (v, rest) e (λ d d_is e1.
    on_bind (index_from d.1) _ (v, rest) e1 (λ n n_is e2.
    let p = index-parts bytes d.1 d.0 ok d_is in
    let q = index-parts d.1 n.1 n.0 p.0.left n_is in
    Front-as field_handle_text field_handle_fits bytes n.1 rest (record { definition = d.0; position = n.0 }) v e2
    (Front-join (uleb d.0) (uleb n.0) bytes d.1 n.1 p.0 q.0) (and_from (is_index d.0) (is_index n.0) p.1 q.1)))

pub field_handle-whole : Whole field_handle_from field_handle_text field_handle_fits
field_handle-whole rest v ok =
    let p = and_parts (is_index v.definition) (is_index v.position) ok in
    ap field_handle_from (append_assoc (uleb v.definition) (uleb v.position) rest)
    ∙ rw (index-whole (uleb v.position ++ rest) v.definition p.0, index-whole rest v.position p.1) refl
