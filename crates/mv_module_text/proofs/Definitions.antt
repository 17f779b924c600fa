-- What is read is what was written: definitions of structs and functions.
use Rattle.std.proofs.Common.{◌≡◌, ℕ, ◌≤◌, List, [], ◌∷◌, ◌++◌, length, arith, refl, ap, suc, ◌∙◌, subst, append_assoc, Some, None, Bool, true, false, cond, eqb, ◌&&◌, nat_le, inl, inr}
use Rattle.std.specs.List.{list_all}
use Rattle.std.proofs.lemmas.Bool.{and_parts, and_from, leb-true, le-leb}
use Rattle.std.proofs.lemmas.Option.{none-some, same_Some}
use Rattle.mv_uleb.specs.Uleb.{uleb}
use Rattle.mv_move_types.specs.Options.{◌>>=◌}
use Rattle.mv_move_types.specs.declared.tables.Visibility.{Visibility}
use Rattle.mv_move_types.specs.declared.tables.Visibility.TheVariants.{Private, Public}
use Rattle.mv_module_text.specs.Entries.{counted, field_text, struct_definition_text, visibility_code, instruction_text, function_definition_text}
use Rattle.mv_module_text.specs.Fits.{is_index, field_fits, struct_definition_fits, instruction_fits, function_definition_fits}
use Rattle.mv_module_text.specs.Parsing.{index_from, byte_from, mark_from, counted_from, field_from, struct_definition_from, visibility_of}
use Rattle.mv_module_text.specs.Parsing.{visibility_from, entry_of, entry_from, instruction_from, function_definition_from}
use Rattle.mv_module_text.specs.Laws.{AreBytes}
use Rattle.mv_module_text.proofs.Texts.{Front, Parts, Whole, on_bind, Front-join, Front-as, index-parts, index-whole, byte-front, mark-front, counted-parts, counted-whole}
use Rattle.mv_module_text.proofs.Tokens.{cond-parts, field-parts, field-whole}
use Rattle.mv_module_text.proofs.Opcodes.{instruction-parts, instruction-whole}

pub struct_definition-parts : (version : ℕ) → Parts (struct_definition_from version) struct_definition_text (struct_definition_fits version)
struct_definition-parts version bytes rest v ok e =
    on_bind (index_from bytes) _ (v, rest) e (λ h h_is e1.
    on_bind (mark_from 2 h.1) _ (v, rest) e1 (λ m m_is e2.
    on_bind (counted_from 32 (field_from version) m) _ (v, rest) e2 (λ f f_is e3.
    let p = index-parts bytes h.1 h.0 ok h_is in
    let q = mark-front 2 h.1 m p.0.left m_is in
    let r = counted-parts 32 (field_from version) field_text (field_fits version) (omega arith) (field-parts version) m f.1 f.0 q.left f_is in
    let back : Front (2 ∷ counted field_text f.0) h.1 f.1 = Front-join (2 ∷ []) (counted field_text f.0) h.1 m f.1 q r.0 in
    let s = and_parts (nat_le (length f.0) 32) (list_all (field_fits version) f.0) r.1 in
    Front-as struct_definition_text (struct_definition_fits version) bytes f.1 rest (record { handle = h.0; fields = f.0 }) v e3
    (Front-join (uleb h.0) (2 ∷ counted field_text f.0) bytes h.1 f.1 p.0 back)
    (and_from (is_index h.0 && nat_le (length f.0) 32) (list_all (field_fits version) f.0) (and_from (is_index h.0) (nat_le (length f.0) 32) p.1 s.0) s.1))))

pub struct_definition-whole : (version : ℕ) → Whole (struct_definition_from version) struct_definition_text (struct_definition_fits version)
struct_definition-whole version rest v ok =
    let p = and_parts (is_index v.handle && nat_le (length v.fields) 32) (list_all (field_fits version) v.fields) ok in
    let q = and_parts (is_index v.handle) (nat_le (length v.fields) 32) p.0 in
    let fit = and_from (nat_le (length v.fields) 32) (list_all (field_fits version) v.fields) q.1 p.1 in
    ap (struct_definition_from version) (append_assoc (uleb v.handle) (2 ∷ counted field_text v.fields) rest)
    ∙ ap (λ r. r >>= λ handle. mark_from 2 handle.1 >>= λ m. counted_from 32 (field_from version) m >>= λ fields. Some (record { handle = handle.0; fields = fields.0 }, fields.1))
    (index-whole (2 ∷ (counted field_text v.fields ++ rest)) v.handle q.0)
    ∙ ap (λ r. r >>= λ fields. Some (record { handle = v.handle; fields = fields.0 }, fields.1))
    (counted-whole 32 (field_from version) field_text (field_fits version) (omega arith) (field-whole version) rest v.fields fit)

-- a visibility at the front
visibility_of-parts : (code : ℕ) (v : Visibility) → visibility_of code ≡ Some v → code ≡ visibility_code v
visibility_of-parts code v e =
    elim (cond-parts code 0 (Some Private) (cond (eqb code 1) (Some Public) None) (Some v) e) [
      | inl p ↦ subst (λ z. code ≡ visibility_code z) (same_Some Private v p.1) p.0
      | inr q ↦ elim (cond-parts code 1 (Some Public) None (Some v) q) [
        | inl p ↦ subst (λ z. code ≡ visibility_code z) (same_Some Public v p.1) p.0
        | inr none ↦ absurd (none-some v none)
      ]
    ]

visibility-front : (bytes rest : List ℕ) (v : Visibility) → AreBytes bytes → visibility_from bytes ≡ Some (v, rest) → Front (visibility_code v ∷ []) bytes rest
visibility-front bytes rest v ok e =
    on_bind (byte_from bytes) _ (v, rest) e (λ code code_is e1.
    on_bind (visibility_of code.0) _ (v, rest) e1 (λ w w_is e2.
    let p = byte-front code.0 bytes code.1 ok code_is in
    let q = visibility_of-parts code.0 w w_is in
    (Front-as (λ z. visibility_code z ∷ []) (λ _. true) bytes code.1 rest w v e2 (subst (λ z. Front (z ∷ []) bytes code.1) q p) refl).0))

visibility-whole : (v : Visibility) (rest : List ℕ) → visibility_from (visibility_code v ∷ rest) ≡ Some (v, rest)
visibility-whole Private rest = refl
visibility-whole Public rest = refl

-- a function's flags at the front
entry_of-parts : (code : ℕ) (v : Bool) → entry_of code ≡ Some v → code ≡ cond v 4 0
entry_of-parts code v e =
    elim (cond-parts code 0 (Some false) (cond (eqb code 4) (Some true) None) (Some v) e) [
      | inl p ↦ subst (λ z. code ≡ cond z 4 0) (same_Some false v p.1) p.0
      | inr q ↦ elim (cond-parts code 4 (Some true) None (Some v) q) [
        | inl p ↦ subst (λ z. code ≡ cond z 4 0) (same_Some true v p.1) p.0
        | inr none ↦ absurd (none-some v none)
      ]
    ]

entry-front : (bytes rest : List ℕ) (v : Bool) → AreBytes bytes → entry_from bytes ≡ Some (v, rest) → Front (cond v 4 0 ∷ []) bytes rest
entry-front bytes rest v ok e =
    on_bind (byte_from bytes) _ (v, rest) e (λ code code_is e1.
    on_bind (entry_of code.0) _ (v, rest) e1 (λ w w_is e2.
    let p = byte-front code.0 bytes code.1 ok code_is in
    let q = entry_of-parts code.0 w w_is in
    (Front-as (λ z. cond z 4 0 ∷ []) (λ _. true) bytes code.1 rest w v e2 (subst (λ z. Front (z ∷ []) bytes code.1) q p) refl).0))

entry-whole : (v : Bool) (rest : List ℕ) → entry_from (cond v 4 0 ∷ rest) ≡ Some (v, rest)
entry-whole true rest = refl
entry-whole false rest = refl

-- a count that is an index
count_fits : (n : ℕ) → nat_le n 65535 ≡ true → is_index n ≡ true
count_fits n le = let small : n ≤ 65535 = leb-true n 65535 le in le-leb (suc n) 65536 (omega arith)

fits_count : (n : ℕ) → is_index n ≡ true → nat_le n 65535 ≡ true
fits_count n lt = let small : suc n ≤ 65536 = leb-true (suc n) 65536 lt in le-leb n 65535 (omega arith)

pub function_definition-parts : (version : ℕ) → Parts (function_definition_from version) function_definition_text (function_definition_fits version)
function_definition-parts version bytes rest v ok e =
    on_bind (index_from bytes) _ (v, rest) e (λ h h_is e1.
    on_bind (visibility_from h.1) _ (v, rest) e1 (λ w w_is e2.
    on_bind (entry_from w.1) _ (v, rest) e2 (λ y y_is e3.
    on_bind (counted_from 65535 index_from y.1) _ (v, rest) e3 (λ a a_is e4.
    on_bind (index_from a.1) _ (v, rest) e4 (λ l l_is e5.
    on_bind (counted_from 4096 (instruction_from version) l.1) _ (v, rest) e5 (λ i i_is e6.
    let p = index-parts bytes h.1 h.0 ok h_is in
    let q = visibility-front h.1 w.1 w.0 p.0.left w_is in
    let r = entry-front w.1 y.1 y.0 q.left y_is in
    let s = counted-parts 65535 index_from uleb is_index (omega arith) index-parts y.1 a.1 a.0 r.left a_is in
    let t = index-parts a.1 l.1 l.0 s.0.left l_is in
    let u = counted-parts 4096 (instruction_from version) instruction_text (instruction_fits version) (omega arith) (instruction-parts version) l.1 i.1 i.0 t.0.left i_is in
    let few = and_parts (nat_le (length a.0) 65535) (list_all is_index a.0) s.1 in
    let short = and_parts (nat_le (length i.0) 4096) (list_all (instruction_fits version) i.0) u.1 in
    let flags : Front (cond y.0 4 0 ∷ counted uleb a.0) w.1 a.1 = Front-join (cond y.0 4 0 ∷ []) (counted uleb a.0) w.1 y.1 a.1 r s.0 in
    let who : Front (visibility_code w.0 ∷ cond y.0 4 0 ∷ counted uleb a.0) h.1 a.1 =
    Front-join (visibility_code w.0 ∷ []) (cond y.0 4 0 ∷ counted uleb a.0) h.1 w.1 a.1 q flags in
    let head : Front (uleb h.0 ++ visibility_code w.0 ∷ cond y.0 4 0 ∷ counted uleb a.0) bytes a.1 =
    Front-join (uleb h.0) (visibility_code w.0 ∷ cond y.0 4 0 ∷ counted uleb a.0) bytes h.1 a.1 p.0 who in
    let code : Front (uleb l.0 ++ counted instruction_text i.0) a.1 i.1 =
    Front-join (uleb l.0) (counted instruction_text i.0) a.1 l.1 i.1 t.0 u.0 in
    Front-as function_definition_text (function_definition_fits version) bytes i.1 rest
    (record { handle = h.0; visibility = w.0; is_entry = y.0; acquires = a.0; locals = l.0; code = i.0 }) v e6
    (Front-join (uleb h.0 ++ visibility_code w.0 ∷ cond y.0 4 0 ∷ counted uleb a.0) (uleb l.0 ++ counted instruction_text i.0) bytes a.1 i.1 head code)
    (and_from (is_index h.0 && is_index l.0 && is_index (length a.0) && list_all is_index a.0 && nat_le (length i.0) 4096) (list_all (instruction_fits version) i.0)
    (and_from (is_index h.0 && is_index l.0 && is_index (length a.0) && list_all is_index a.0) (nat_le (length i.0) 4096)
    (and_from (is_index h.0 && is_index l.0 && is_index (length a.0)) (list_all is_index a.0)
    (and_from (is_index h.0 && is_index l.0) (is_index (length a.0)) (and_from (is_index h.0) (is_index l.0) p.1 t.1) (count_fits (length a.0) few.0))
    few.1) short.0) short.1)))))))

-- the parts of a function definition before the rest
function_regroup : (h a l c rest : List ℕ) (v f : ℕ) → ((h ++ v ∷ f ∷ a) ++ (l ++ c)) ++ rest ≡ h ++ (v ∷ f ∷ (a ++ (l ++ (c ++ rest))))
function_regroup h a l c rest v f = simp append_assoc

pub function_definition-whole : (version : ℕ) → Whole (function_definition_from version) function_definition_text (function_definition_fits version)
function_definition-whole version rest v ok =
    let p = and_parts (is_index v.handle && is_index v.locals && is_index (length v.acquires) && list_all is_index v.acquires && nat_le (length v.code) 4096) (list_all (instruction_fits version) v.code) ok in
    let q = and_parts (is_index v.handle && is_index v.locals && is_index (length v.acquires) && list_all is_index v.acquires) (nat_le (length v.code) 4096) p.0 in
    let r = and_parts (is_index v.handle && is_index v.locals && is_index (length v.acquires)) (list_all is_index v.acquires) q.0 in
    let s = and_parts (is_index v.handle && is_index v.locals) (is_index (length v.acquires)) r.0 in
    let t = and_parts (is_index v.handle) (is_index v.locals) s.0 in
    let few = and_from (nat_le (length v.acquires) 65535) (list_all is_index v.acquires) (fits_count (length v.acquires) s.1) r.1 in
    let short = and_from (nat_le (length v.code) 4096) (list_all (instruction_fits version) v.code) q.1 p.1 in
    let code : List ℕ = counted instruction_text v.code ++ rest in
    ap (function_definition_from version) (function_regroup (uleb v.handle) (counted uleb v.acquires) (uleb v.locals) (counted instruction_text v.code) rest (visibility_code v.visibility) (cond v.is_entry 4 0))
    ∙ ap (λ r. r >>= λ handle. visibility_from handle.1 >>= λ visibility. entry_from visibility.1 >>= λ is_entry. counted_from 65535 index_from is_entry.1 >>= λ acquires. index_from acquires.1 >>= λ locals. counted_from 4096 (instruction_from version) locals.1 >>= λ code. Some (record { handle = handle.0; visibility = visibility.0; is_entry = is_entry.0; acquires = acquires.0; locals = locals.0; code = code.0 }, code.1))
    (index-whole (visibility_code v.visibility ∷ cond v.is_entry 4 0 ∷ (counted uleb v.acquires ++ (uleb v.locals ++ code))) v.handle t.0)
    ∙ ap (λ r. r >>= λ visibility. entry_from visibility.1 >>= λ is_entry. counted_from 65535 index_from is_entry.1 >>= λ acquires. index_from acquires.1 >>= λ locals. counted_from 4096 (instruction_from version) locals.1 >>= λ code. Some (record { handle = v.handle; visibility = visibility.0; is_entry = is_entry.0; acquires = acquires.0; locals = locals.0; code = code.0 }, code.1))
    (visibility-whole v.visibility (cond v.is_entry 4 0 ∷ (counted uleb v.acquires ++ (uleb v.locals ++ code))))
    ∙ ap (λ r. r >>= λ is_entry. counted_from 65535 index_from is_entry.1 >>= λ acquires. index_from acquires.1 >>= λ locals. counted_from 4096 (instruction_from version) locals.1 >>= λ code. Some (record { handle = v.handle; visibility = v.visibility; is_entry = is_entry.0; acquires = acquires.0; locals = locals.0; code = code.0 }, code.1))
    (entry-whole v.is_entry (counted uleb v.acquires ++ (uleb v.locals ++ code)))
    ∙ ap (λ r. r >>= λ acquires. index_from acquires.1 >>= λ locals. counted_from 4096 (instruction_from version) locals.1 >>= λ code. Some (record { handle = v.handle; visibility = v.visibility; is_entry = v.is_entry; acquires = acquires.0; locals = locals.0; code = code.0 }, code.1))
    (counted-whole 65535 index_from uleb is_index (omega arith) index-whole (uleb v.locals ++ code) v.acquires few)
    ∙ ap (λ r. r >>= λ locals. counted_from 4096 (instruction_from version) locals.1 >>= λ code. Some (record { handle = v.handle; visibility = v.visibility; is_entry = v.is_entry; acquires = v.acquires; locals = locals.0; code = code.0 }, code.1))
    (index-whole code v.locals t.1)
    ∙ ap (λ r. r >>= λ code. Some (record { handle = v.handle; visibility = v.visibility; is_entry = v.is_entry; acquires = v.acquires; locals = v.locals; code = code.0 }, code.1))
    (counted-whole 4096 (instruction_from version) instruction_text (instruction_fits version) (omega arith) (instruction-whole version) rest v.code short)
