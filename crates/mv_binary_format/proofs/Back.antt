-- The entries of a module's tables are read again, and so is the whole module.
use Rattle.mv_binary_format.proofs.Common.{[], ℕ, ◌&&◌, ◌++◌, ◌+◌, ◌<◌, ◌==◌, ◌||◌, ◌∙◌, ◌∷◌, ◌≡◌, ◌≤◌, Bool, IsTrue, List, None, Some, ap, append_assoc, arith, false, get_or}
use Rattle.mv_binary_format.proofs.Common.{inl, inr, length, length-append, lit<, nat_lt, not, refl, subst, suc, sym, true, and_from, and_parts, cases_Bool, eq-eqb, eqb-true, le-leb}
use Rattle.mv_binary_format.proofs.Common.{leb-true, lt-ltb, ltb-false, append-nil, sum_by-IsPermutation, to_le_bytes, w32, filter, find, flat_map, list_all, list_any, sum_by}
use Rattle.mv_binary_format.proofs.Common.{Module, StandsByForm, uleb, address_text, constant_text, counted, field_handle_text, function_definition_text, function_handle_text}
use Rattle.mv_binary_format.proofs.Common.{identifier_text, module_handle_text, signature_text, struct_definition_text, struct_handle_text, address_fits, constant_fits, field_handle_fits}
use Rattle.mv_binary_format.proofs.Common.{function_definition_fits, function_handle_fits, identifier_fits, module_handle_fits, signature_fits, struct_definition_fits, struct_handle_fits}
use Rattle.mv_binary_format.proofs.Common.{AreBytes, StandAsTexts, Read, address_from, all_from, constant_from, counted_from, field_handle_from, function_definition_from}
use Rattle.mv_binary_format.proofs.Common.{function_handle_from, identifier_from, index_from, module_handle_from, signature_from, struct_definition_from, struct_handle_from, HasText, Header}
use Rattle.mv_binary_format.proofs.Common.{IsModuleText, Table, header_text, headers_from, table, tables, content_of, contents_from, entries_of, header_from, is_of, kinds, magic, marks_from}
use Rattle.mv_binary_format.proofs.Common.{module_from, module_of, version_from, without, all_tables}
use Rattle.std.specs.Str.{bytes_eq}
use Rattle.std.proofs.lemmas.List.Concat.{length-flat_map}
use Rattle.std.proofs.lemmas.Slice.Eq.{bytes_eq-Decides}
use Rattle.mv_module_text.specs.Fits.{is_index}
use Rattle.mv_module_text.specs.Laws.{StandsByText}
use Rattle.mv_binary_format.proofs.Versions.{version-sound, version-complete}
use Rattle.mv_binary_format.proofs.Binds.{bind_some, cond_parts}
use Rattle.mv_binary_format.proofs.Taken.{without-none}
use Rattle.mv_binary_format.proofs.Sums.{SameSums, SameSums-from_permutation, Tells, found-alone, found-none, others-in_all, all-SameSums, empty-SameSums, length-SameSums}
use Rattle.mv_binary_format.proofs.Sound.{bytes-behind, bytes-before, rest-bytes, has_bytes, tells_bytes, header_fits, marks-sound, header-sound, counted-sound, contents-sound}
use Rattle.mv_binary_format.proofs.OfTables.{TableLaws, has_only_bytes, contents-are_bytes, content_of-is_bytes, module-sound, no_elements}
use Rattle.mv_binary_format.proofs.Complete.{header_ok, header-complete, counted-complete, contents-complete}

-- whether two tables are one
abbrev pub same_table : Table → Table → Bool
same_table a b = (a.kind == b.kind) && bytes_eq a.content b.content

make_table : ℕ → List ℕ → Table
make_table kind content = record { kind = kind; content = content }

pub tables-told : Tells same_table
unfolding make_table
tables-told = record {
  one = λ a b e.
      let p = and_parts (a.kind == b.kind) (bytes_eq a.content b.content) e in
      ap (λ z. make_table z a.content) (eqb-true a.kind b.kind p.0) ∙ ap (λ z. make_table b.kind z) ((bytes_eq-Decides a.content b.content).0 p.1);
  itself = λ a. and_from _ _ (eq-eqb a.kind a.kind refl) ((bytes_eq-Decides a.content a.content).1 refl);
}

-- what all pass, those that are kept pass
pub all-filter : {A : Type 0} (q p : A → Bool) (xs : List A) → list_all q xs ≡ true → list_all q (filter p xs) ≡ true
all-filter q p [] all = refl
all-filter q p (x ∷ xs) all =
    let s = and_parts (q x) (list_all q xs) all in
    elim (cases_Bool (p x)) [
      | inl h ↦ rw h (and_from (q x) (list_all q (filter p xs)) s.0 (all-filter q p xs s.1))
      | inr h ↦ rw h (all-filter q p xs s.1)
    ]

-- those that are kept pass
pub filter-all : {A : Type 0} (p : A → Bool) (xs : List A) → list_all p (filter p xs) ≡ true
filter-all p [] = refl
filter-all p (x ∷ xs) =
    elim (cases_Bool (p x)) [
      | inl h ↦ rw h (and_from (p x) (list_all p (filter p xs)) h (filter-all p xs))
      | inr h ↦ rw h (filter-all p xs)
    ]

-- no more are kept than there are
pub filter-shorter : {A : Type 0} (p : A → Bool) (xs : List A) → length (filter p xs) ≤ length xs
filter-shorter p [] = omega arith
filter-shorter p (x ∷ xs) =
    let s : length (filter p xs) ≤ length xs = filter-shorter p xs in
    elim (cases_Bool (p x)) [
      | inl h ↦ rw h (omega arith)
      | inr h ↦ rw h (omega arith)
    ]

-- a list without elements, by its length
empty-short : {A : Type 0} (xs : List A) → nat_lt 0 (length xs) ≡ false → xs ≡ []
empty-short [] e = refl
empty-short (x ∷ xs) e = let le : suc (length xs) ≤ 0 = ltb-false 0 (suc (length xs)) e in absurd (omega arith)

-- what is found of a kind, and what is left
pub record Kept (kind : ℕ) (content : List ℕ) (ts rest : List Table) : Type 0 where
  pub content_is : content_of kind ts ≡ content
  pub others : SameSums (without (is_of kind) ts) (filter has_bytes rest)

pub kept : (kind : ℕ) (content : List ℕ) (ts rest : List Table) → SameSums ts (filter has_bytes (record { kind = kind; content = content } ∷ rest))
    → list_all (λ t. not (is_of kind t)) rest ≡ true → Kept kind content ts rest
kept kind content ts rest s apart =
    let t : Table = record { kind = kind; content = content } in
    let apart' = all-filter (λ t. not (is_of kind t)) has_bytes rest apart in
    elim (cases_Bool (nat_lt 0 (length content))) [
      | inl h ↦
          let s' : SameSums ts (t ∷ filter has_bytes rest) = rw h at s in
          let a = found-alone same_table tables-told (is_of kind) ts t (filter has_bytes rest) s' (eq-eqb kind kind refl) apart' in
          record { content_is = rw a.0 refl; others = a.1 }
      | inr h ↦
          let s' : SameSums ts (filter has_bytes rest) = rw h at s in
          let none : find (is_of kind) ts ≡ None = found-none (is_of kind) ts (filter has_bytes rest) s' apart' in
          let same : without (is_of kind) ts ≡ ts = without-none (is_of kind) ts none in
          record { content_is = rw none (sym (empty-short content h)); others = rw same s' }
    ]

-- what is read of a table, and what is left
pub record ReadBack {A : Type 0} (kind : ℕ) (each : List ℕ → Read A) (ts : List Table) (xs : List A) (rest : List Table) : Type 0 where
  pub read : entries_of kind each ts ≡ Some (xs, without (is_of kind) ts)
  pub others : SameSums (without (is_of kind) ts) (filter has_bytes rest)
  pub bytes : list_all has_only_bytes (without (is_of kind) ts) ≡ true

pub read-back : {A : Type 0} (kind : ℕ) (each : List ℕ → Read A) (text : A → List ℕ) (fits : A → Bool) → StandAsTexts each text fits → (ts : List Table) (xs : List A) (rest : List Table)
    → SameSums ts (filter has_bytes (table kind text xs ∷ rest)) → list_all (λ t. not (is_of kind t)) rest ≡ true → list_all fits xs ≡ true
    → list_all has_only_bytes ts ≡ true
    → ReadBack kind each ts xs rest
unfolding entries_of
read-back kind each text fits law ts xs rest s apart fit bytes =
    let k = kept kind (flat_map text xs) ts rest s apart in
    let c = content_of kind ts in
    let r : all_from each (length c) c ≡ Some xs = (law (length c) c xs (omega arith) (content_of-is_bytes kind ts bytes)).1 (k.content_is, fit) in
    record {
      read = rw r refl;
      others = k.others;
      bytes = others-in_all has_only_bytes (is_of kind) ts bytes;
    }

-- a module is read from the contents of its tables, in whatever order they are
pub module-complete : (m : Module) → TableLaws m.version → (ts : List Table) → HasText m → SameSums ts (tables m) → list_all has_only_bytes ts ≡ true → module_from m.version m.own ts ≡ Some m
unfolding module_from
module-complete m laws ts has s bytes =
    let xj = table 0x0D field_handle_text m.field_handles in
    let xi = table 0x0C function_definition_text m.functions in
    let xh = table 0x0A struct_definition_text m.structs in
    let xg = table 0x08 address_text m.addresses in
    let xf = table 0x07 identifier_text m.identifiers in
    let xe = table 0x06 constant_text m.constants in
    let xd = table 0x05 signature_text m.signatures in
    let xc = table 0x03 function_handle_text m.function_handles in
    let xb = table 0x02 struct_handle_text m.struct_handles in
    let ra = read-back 0x01 module_handle_from module_handle_text module_handle_fits laws.module_handles ts m.module_handles (xb ∷ xc ∷ xd ∷ xe ∷ xf ∷ xg ∷ xh ∷ xi ∷ xj ∷ []) s refl has.module_handles bytes in
    let ta = without (is_of 0x01) ts in
    let rb = read-back 0x02 struct_handle_from struct_handle_text struct_handle_fits laws.struct_handles ta m.struct_handles (xc ∷ xd ∷ xe ∷ xf ∷ xg ∷ xh ∷ xi ∷ xj ∷ []) ra.others refl has.struct_handles ra.bytes in
    let tb = without (is_of 0x02) ta in
    let rc = read-back 0x03 function_handle_from function_handle_text function_handle_fits laws.function_handles tb m.function_handles (xd ∷ xe ∷ xf ∷ xg ∷ xh ∷ xi ∷ xj ∷ []) rb.others refl has.function_handles rb.bytes in
    let tc = without (is_of 0x03) tb in
    let rd = read-back 0x05 (signature_from m.version) signature_text (signature_fits m.version) laws.signatures tc m.signatures (xe ∷ xf ∷ xg ∷ xh ∷ xi ∷ xj ∷ []) rc.others refl has.signatures rc.bytes in
    let td = without (is_of 0x05) tc in
    let re = read-back 0x06 (constant_from m.version) constant_text (constant_fits m.version) laws.constants td m.constants (xf ∷ xg ∷ xh ∷ xi ∷ xj ∷ []) rd.others refl has.constants rd.bytes in
    let te = without (is_of 0x06) td in
    let rf = read-back 0x07 identifier_from identifier_text identifier_fits laws.identifiers te m.identifiers (xg ∷ xh ∷ xi ∷ xj ∷ []) re.others refl has.identifiers re.bytes in
    let tf = without (is_of 0x07) te in
    let rg = read-back 0x08 address_from address_text address_fits laws.addresses tf m.addresses (xh ∷ xi ∷ xj ∷ []) rf.others refl has.addresses rf.bytes in
    let tg = without (is_of 0x08) tf in
    let rh = read-back 0x0A (struct_definition_from m.version) struct_definition_text (struct_definition_fits m.version) laws.structs tg m.structs (xi ∷ xj ∷ []) rg.others refl has.structs rg.bytes in
    let th = without (is_of 0x0A) tg in
    let ri = read-back 0x0C (function_definition_from m.version) function_definition_text (function_definition_fits m.version) laws.functions th m.functions (xj ∷ []) rh.others refl has.functions rh.bytes in
    let ti = without (is_of 0x0C) th in
    let rj = read-back 0x0D field_handle_from field_handle_text field_handle_fits laws.field_handles ti m.field_handles [] ri.others refl has.field_handles ri.bytes in
    let none : without (is_of 0x0D) ti ≡ [] = empty-SameSums (without (is_of 0x0D) ti) rj.others in
    rw (ra.read, rb.read, rc.read, rd.read, re.read, rf.read, rg.read, rh.read, ri.read, rj.read, none, has.few_functions) refl

-- a weaker test
all-weaker : {A : Type 0} (q r : A → Bool) → ((x : A) → q x ≡ true → r x ≡ true) → (xs : List A) → list_all q xs ≡ true → list_all r xs ≡ true
all-weaker q r weaker [] h = refl
all-weaker q r weaker (x ∷ xs) h =
    let p = and_parts (q x) (list_all q xs) h in
    and_from _ _ (weaker x p.0) (all-weaker q r weaker xs p.1)

-- the bytes of contents
abbrev all_contents : List Table → List ℕ
all_contents ts = flat_map (λ t. t.content) ts

-- the parts after the mark, one by one
parts : (v c f u : List ℕ) → ((v ++ c) ++ f) ++ u ≡ v ++ (c ++ (f ++ u))
parts v c f u = simp append_assoc

-- what is read as a module is a text of it
pub whole-sound : StandsByForm → StandsByText index_from uleb is_index → ((version : ℕ) → TableLaws version)
    → (bytes : List ℕ) (m : Module) → AreBytes bytes → module_of bytes ≡ Some m → IsModuleText bytes m
unfolding module_of
whole-sound numbers indices laws bytes m are e =
    bind_some (marks_from magic bytes) _ m e (λ rest rest_is e1.
    bind_some (version_from rest) _ m e1 (λ version version_is e2.
    bind_some (counted_from 10 header_from version.1) _ m e2 (λ hs hs_is e3.
    bind_some (contents_from (length hs.0) 0 hs.0 hs.1) _ m e3 (λ ts ts_is e4.
    bind_some (index_from ts.1) _ m e4 (λ own own_is e5.
    let q = cond_parts (length own.1 == 0) (module_from version.0 own.0 ts.0) m e5 in
    let f = marks-sound magic bytes rest rest_is in
    let are1 = rest-bytes bytes magic rest f are in
    let v = version-sound rest version.0 version.1 version_is in
    let are2 = rest-bytes rest (to_le_bytes w32 version.0) version.1 v.0 are1 in
    let h = counted-sound numbers 10 (lit< tt) header_from header_text header_fits (header-sound numbers) version.1 hs.0 hs.1 are2 hs_is in
    let are3 = rest-bytes version.1 (counted header_text hs.0) hs.1 h.0 are2 in
    let tells = all-weaker header_fits tells_bytes (λ x fit. (and_parts (list_any (λ k. k == x.kind) kinds) (nat_lt 0 x.length) fit).1) hs.0 h.1 in
    let c = contents-sound (length hs.0) 0 hs.0 hs.1 ts.0 ts.1 tells ts_is in
    let are4 : AreBytes (all_contents ts.0 ++ ts.1) = subst AreBytes c.stand are3 in
    let are5 = bytes-behind (all_contents ts.0) ts.1 are4 in
    let i = (indices ts.1 own.1 own.0 are5).0 own_is in
    let none : own.1 ≡ [] = no_elements own.1 q.0 in
    let o = module-sound version.0 (laws version.0) own.0 ts.0 m c.full (contents-are_bytes ts.0 (bytes-before (all_contents ts.0) ts.1 are4)) q.1 in
    let last : ts.1 ≡ uleb m.own = i.0 ∙ ap (λ z. uleb own.0 ++ z) none ∙ append-nil (uleb own.0) ∙ ap uleb o.own_is in
    let after : version.1 ≡ counted header_text hs.0 ++ (all_contents ts.0 ++ uleb m.own) =
    h.0 ∙ ap (λ z. counted header_text hs.0 ++ z) (c.stand ∙ ap (λ z. all_contents ts.0 ++ z) last) in
    let inner : rest ≡ ((to_le_bytes w32 m.version ++ counted header_text hs.0) ++ all_contents ts.0) ++ uleb m.own =
    v.0 ∙ ap (λ z. to_le_bytes w32 z ++ version.1) o.version_is ∙ ap (λ z. to_le_bytes w32 m.version ++ z) after
    ∙ sym (parts (to_le_bytes w32 m.version) (counted header_text hs.0) (all_contents ts.0) (uleb m.own)) in
    let total : length (all_contents ts.0) ≡ sum_by (λ t. length t.content) ts.0 = length-flat_map (λ (t : Table). t.content) ts.0 in
    let same : sum_by (λ t. length t.content) (tables m) ≡ sum_by (λ t. length t.content) ts.0 = sum_by-IsPermutation (λ (t : Table). length t.content) ts.0 (tables m) o.tiled in
    let small : sum_by (λ t. length t.content) (tables m) ≤ 65536 = (let le : 0 ≤ 65536 = omega arith in omega (arith, c.ends le)) in
    record {
      contents = ts.0;
      headers = hs.0;
      tiled = o.tiled;
      listed = c.listed;
      text = f ∙ ap (λ z. magic ++ z) inner;
      fits = record {
        version = subst (λ z. IsTrue ((z == 5) || (z == 6))) o.version_is v.1;
        module_handles = o.module_handles;
        struct_handles = o.struct_handles;
        function_handles = o.function_handles;
        signatures = o.signatures;
        constants = o.constants;
        identifiers = o.identifiers;
        addresses = o.addresses;
        structs = o.structs;
        functions = o.functions;
        few_functions = o.few_functions;
        field_handles = o.field_handles;
        own = subst (λ z. IsTrue (is_index z)) o.own_is i.1;
        size = le-leb (sum_by (λ t. length t.content) (tables m)) 65536 small;
      };
    })))))

-- whether there is such a kind
abbrev is_known : Table → Bool
is_known t = list_any (λ k. k == t.kind) kinds

-- the headers of such contents may be written
headers-ok : (offset : ℕ) (ts : List Table) → list_all has_bytes ts ≡ true → list_all is_known ts ≡ true → offset + length (all_contents ts) ≤ 65536
    → list_all header_ok (headers_from offset ts) ≡ true
headers-ok offset [] full known small = refl
headers-ok offset (t ∷ ts) full known small =
    let p = and_parts (has_bytes t) (list_all has_bytes ts) full in
    let k = and_parts (is_known t) (list_all is_known ts) known in
    let sum : length (t.content ++ all_contents ts) ≡ length t.content + length (all_contents ts) = length-append t.content (all_contents ts) in
    let a : offset ≤ 65536 = omega arith in
    let b : length t.content ≤ 65536 = omega arith in
    let c : (offset + length t.content) + length (all_contents ts) ≤ 65536 = omega arith in
    and_from _ _ (and_from _ _ (and_from _ _ k.0 p.0) (and_from _ _ (le-leb offset 65536 a) (le-leb (length t.content) 65536 b))) (headers-ok (offset + length t.content) ts p.1 k.1 c)

length-headers : (offset : ℕ) (ts : List Table) → length (headers_from offset ts) ≡ length ts
length-headers offset [] = refl
length-headers offset (t ∷ ts) = ap suc (length-headers (offset + length t.content) ts)

-- a module that is read part by part after its mark
whole-read : (version : ℕ) (rest after behind last : List ℕ) (hs : List Header) (ts : List Table) (own : ℕ) (m : Module)
    → version_from rest ≡ Some (version, after) → counted_from 10 header_from after ≡ Some (hs, behind) → contents_from (length hs) 0 hs behind ≡ Some (ts, last)
    → index_from last ≡ Some (own, []) → module_from version own ts ≡ Some m → module_of (magic ++ rest) ≡ Some m
unfolding module_of
whole-read version rest after behind last hs ts own m a b c d e = rw (a, b, c, d) e

-- a text of a module is read as it
pub whole-complete : StandsByForm → StandsByText index_from uleb is_index → ((version : ℕ) → TableLaws version)
    → (bytes : List ℕ) (m : Module) → AreBytes bytes → IsModuleText bytes m → module_of bytes ≡ Some m
unfolding module_of
whole-complete numbers indices laws bytes m are t =
    let ts = t.contents in
    let hs = t.headers in
    let has = t.fits in
    let s1 = SameSums-from_permutation ts (tables m) t.tiled in
    let s2 = SameSums-from_permutation hs (headers_from 0 ts) t.listed in
    let full : list_all has_bytes ts ≡ true = all-SameSums has_bytes ts (tables m) s1 (filter-all has_bytes (all_tables m)) in
    let known : list_all is_known ts ≡ true = all-SameSums is_known ts (tables m) s1 (all-filter is_known has_bytes (all_tables m) refl) in
    let total : length (all_contents ts) ≡ sum_by (λ t. length t.content) ts = length-flat_map (λ (t : Table). t.content) ts in
    let same : sum_by (λ t. length t.content) ts ≡ sum_by (λ t. length t.content) (tables m) = s1.same (λ t. length t.content) in
    let size : sum_by (λ t. length t.content) (tables m) ≤ 65536 = leb-true (sum_by (λ t. length t.content) (tables m)) 65536 has.size in
    let small : 0 + length (all_contents ts) ≤ 65536 = omega arith in
    let ok : list_all header_ok hs ≡ true = all-SameSums header_ok hs (headers_from 0 ts) s2 (headers-ok 0 ts full known small) in
    let few : length (tables m) ≤ 10 = filter-shorter has_bytes (all_tables m) in
    let n1 : length hs ≡ length (headers_from 0 ts) = length-SameSums hs (headers_from 0 ts) s2 in
    let n2 : length (headers_from 0 ts) ≡ length ts = length-headers 0 ts in
    let n3 : length ts ≡ length (tables m) = length-SameSums ts (tables m) s1 in
    let count : length hs ≤ 10 = omega arith in
    let V = to_le_bytes w32 m.version in
    let C = counted header_text hs in
    let F = all_contents ts in
    let U = uleb m.own in
    let split : ((V ++ C) ++ F) ++ U ≡ V ++ (C ++ (F ++ U)) = parts V C F U in
    let are0 : AreBytes (((V ++ C) ++ F) ++ U) = rest-bytes bytes magic (((V ++ C) ++ F) ++ U) t.text are in
    let are1 : AreBytes (C ++ (F ++ U)) = bytes-behind V (C ++ (F ++ U)) (subst AreBytes split are0) in
    let are2 : AreBytes (F ++ U) = bytes-behind C (F ++ U) are1 in
    let are3 : AreBytes U = bytes-behind F U are2 in
    let c0 : version_from (V ++ (C ++ (F ++ U))) ≡ Some (m.version, C ++ (F ++ U)) = version-complete m.version (C ++ (F ++ U)) has.version in
    let c1 : counted_from 10 header_from (C ++ (F ++ U)) ≡ Some (hs, F ++ U) = counted-complete numbers 10 (lit< tt) header_from header_text header_ok (header-complete numbers) hs (F ++ U) count ok are1 in
    let c2 : contents_from (length hs) 0 hs (F ++ U) ≡ Some (ts, U) = contents-complete ts hs 0 U s2 full small in
    let c3 : index_from U ≡ Some (m.own, []) = (indices U [] m.own are3).1 (sym (append-nil U), has.own) in
    let c4 : module_from m.version m.own ts ≡ Some m = module-complete m (laws m.version) ts has s1 (contents-are_bytes ts (bytes-before F U are2)) in
    ap module_of t.text ∙ ap (λ z. module_of (magic ++ z)) split ∙ whole-read m.version (V ++ (C ++ (F ++ U))) (C ++ (F ++ U)) (F ++ U) U hs ts m.own m c0 c1 c2 c3 c4

-- bytes, by each index
pub all-are_bytes : (bytes : List ℕ) → ((k : ℕ) → get_or bytes k 0 < 256) → AreBytes bytes
all-are_bytes [] h = refl
all-are_bytes (b ∷ bytes) h = and_from _ _ (lt-ltb b 256 (h 0)) (all-are_bytes bytes (λ k. h (suc k)))
