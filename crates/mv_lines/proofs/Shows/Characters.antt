-- The lines of a show and of an audit are texts of characters, all of them ASCII.
use Rattle.mv_lines.proofs.Common.{[], ◌++◌, ◌<◌, ◌∷◌, ◌≡◌, All, All-cons, All-nil, AllByRecursion, List, AsJson, AsText, Entry, Format, IsPlain, IsStore, LedgerState}
use Rattle.mv_lines.proofs.Common.{PublishedModule, Storage, StructName, Tallied, arith, audited, codes, count, count_line, count_object, decimal, end_line, entry_line, entry_object, first_so, second_so}
use Rattle.mv_lines.proofs.Common.{json_line, length, list_all, map, member, modules_of, scarce_structs, nat_lt, nat_tests, object, refl, shown, subst, sym, tables_in, true, with_commas, ℕ, is_plain, key_text, value_text}
use Rattle.mv_machine.specs.Lines.{struct_text}
use Rattle.mv_machine.specs.Lines as lines
use Rattle.std.proofs.lemmas.Str.{IsUtf8-append, IsUtf8-from_ascii, IsUtf8-nil}
use Rattle.std.proofs.lemmas.Str.Ascii.{IsAscii-from_all}
use Rattle.std.specs.Prelude.{IsUtf8}
use Rattle.mv_lines.specs.LinesView.{ended}
use Rattle.mv_lines.proofs.Shows.Names.{IsPlainStruct, all-append, plain-address, plain-decimal, plain-key, plain-scarce, plain-value}

-- ---- ASCII

all_below : (text : List ℕ) → list_all (λ b. nat_lt b 128) text ≡ true → All (λ (b : ℕ). b < 128) text
all_below [] h = All-nil (λ (x : ℕ). x < 128)
all_below (b ∷ bs) h =
    let first : nat_lt b 128 ≡ true = first_so (nat_lt b 128) (list_all (λ b. nat_lt b 128) bs) h in
    let below : b < 128 = grind (arith, nat_tests, first) in
    All-cons (λ (x : ℕ). x < 128) b bs below (all_below bs (second_so (nat_lt b 128) (list_all (λ b. nat_lt b 128) bs) h))

ascii : (text : List ℕ) → list_all (λ b. nat_lt b 128) text ≡ true → IsUtf8 text
ascii text h = IsUtf8-from_ascii text (IsAscii-from_all text (all_below text h))

plain_below : (b : ℕ) → is_plain b ≡ true → b < 128
plain_below b plain = grind (arith, nat_tests)

all_plain : (text : List ℕ) → IsPlain text → All (λ (b : ℕ). b < 128) text
all_plain [] h = All-nil (λ (x : ℕ). x < 128)
all_plain (b ∷ bs) h = All-cons (λ (x : ℕ). x < 128) b bs (plain_below b (first_so (is_plain b) (list_all is_plain bs) h)) (all_plain bs (second_so (is_plain b) (list_all is_plain bs) h))

pub plain_utf8 : (text : List ℕ) → IsPlain text → IsUtf8 text
plain_utf8 text plain = IsUtf8-from_ascii text (IsAscii-from_all text (all_plain text plain))

-- ---- lines

end_utf8 : (n : ℕ) → IsUtf8 (end_line n)
end_utf8 n = IsUtf8-append (codes "end ") (decimal n) (ascii (codes "end ") refl) (plain_utf8 (decimal n) (plain-decimal n))

count_utf8 : (stored : ℕ) (t : Tallied) → IsPlainStruct t.struct → IsUtf8 (count_line stored t)
count_utf8 stored t plain =
    let number : (n : ℕ) → IsUtf8 (decimal n) = λ n. plain_utf8 (decimal n) (plain-decimal n) in
    IsUtf8-append _ _ (IsUtf8-append _ _ (IsUtf8-append _ _ (IsUtf8-append _ _ (IsUtf8-append _ _ (IsUtf8-append _ _ (IsUtf8-append (codes "count ") (struct_text t.struct)
    (ascii (codes "count ") refl) (plain_utf8 (struct_text t.struct) plain))
    (ascii (codes " stored ") refl)) (number stored)) (ascii (codes " packed ") refl)) (number t.packs)) (ascii (codes " unpacked ") refl)) (number t.unpacks)

-- ---- JSON

member_utf8 : (key text : List ℕ) → IsUtf8 key → IsUtf8 text → IsUtf8 (member key text)
member_utf8 key text k t =
    IsUtf8-append _ _ (IsUtf8-append _ _ (IsUtf8-append _ _ (IsUtf8-append (codes "\"") key (ascii (codes "\"") refl) k) (ascii (codes "\":\"") refl)) t) (ascii (codes "\"") refl)

commas_utf8 : (ts : List (List ℕ)) → AllByRecursion IsUtf8 ts → IsUtf8 (with_commas ts)
commas_utf8 [] h = IsUtf8-nil
commas_utf8 (t ∷ []) h = h.0
commas_utf8 (t ∷ u ∷ ts) h = IsUtf8-append (t ++ codes ",") (with_commas (u ∷ ts)) (IsUtf8-append t (codes ",") h.0 (ascii (codes ",") refl)) (commas_utf8 (u ∷ ts) h.1)

object_utf8 : (ts : List (List ℕ)) → AllByRecursion IsUtf8 ts → IsUtf8 (object ts)
object_utf8 ts h = IsUtf8-append _ _ (IsUtf8-append (codes "{") (with_commas ts) (ascii (codes "{") refl) (commas_utf8 ts h)) (ascii (codes "}") refl)

line_utf8 : (key : List ℕ) (ts : List (List ℕ)) → IsUtf8 key → AllByRecursion IsUtf8 ts → IsUtf8 (json_line key ts)
line_utf8 key ts k h =
    IsUtf8-append _ _ (IsUtf8-append _ _ (IsUtf8-append _ _ (IsUtf8-append (codes "json {\"") key (ascii (codes "json {\"") refl) k) (ascii (codes "\":[") refl)) (commas_utf8 ts h)) (ascii (codes "]}") refl)

counts_utf8 : (stored : ℕ) (t : Tallied) → IsPlainStruct t.struct → IsUtf8 (count_object stored t)
counts_utf8 stored t plain =
    let number : (key : List ℕ) (n : ℕ) → IsUtf8 key → IsUtf8 (member key (decimal n)) = λ key n k. member_utf8 key (decimal n) k (plain_utf8 (decimal n) (plain-decimal n)) in
    let name : IsUtf8 (member (codes "struct") (struct_text t.struct)) = member_utf8 (codes "struct") (struct_text t.struct) (ascii (codes "struct") refl) (plain_utf8 (struct_text t.struct) plain) in
    object_utf8 (member (codes "packed") (decimal t.packs) ∷ member (codes "stored") (decimal stored) ∷ member (codes "struct") (struct_text t.struct) ∷ member (codes "unpacked") (decimal t.unpacks) ∷ [])
    (number (codes "packed") t.packs (ascii (codes "packed") refl), (number (codes "stored") stored (ascii (codes "stored") refl), (name, (number (codes "unpacked") t.unpacks (ascii (codes "unpacked") refl), tt))))

-- ---- reports

ended_utf8 : (ls : List (List ℕ)) → AllByRecursion IsUtf8 ls → IsUtf8 (ended ls)
ended_utf8 [] h = IsUtf8-nil
ended_utf8 (l ∷ ls) h = IsUtf8-append (l ++ 10 ∷ []) (ended ls) (IsUtf8-append l (10 ∷ []) h.0 (ascii (10 ∷ []) refl)) (ended_utf8 ls h.1)

module _ (published : List PublishedModule) (store : IsStore published) where
  entry_utf8 : (e : Entry) → IsUtf8 (entry_line (tables_in published) e)
  entry_utf8 e =
      IsUtf8-append _ _ (IsUtf8-append _ _ (IsUtf8-append _ _ (IsUtf8-append _ _ (IsUtf8-append (codes "at ") (lines.address_text e.key.address)
      (ascii (codes "at ") refl) (plain_utf8 (lines.address_text e.key.address) (plain-address e.key.address)))
      (ascii (codes " ") refl)) (plain_utf8 (key_text (tables_in published) e.key) (plain-key published store e.key))) (ascii (codes " ") refl)) (plain_utf8 (value_text e.value) (plain-value e.value))

  each_entry : (es : Storage) → AllByRecursion IsUtf8 (map (entry_line (tables_in published)) es)
  each_entry [] = tt
  each_entry (e ∷ es) = (entry_utf8 e, each_entry es)

  object_of : (e : Entry) → IsUtf8 (entry_object (tables_in published) e)
  object_of e =
      let address : IsUtf8 (member (codes "address") (lines.address_text e.key.address)) =
      member_utf8 (codes "address") (lines.address_text e.key.address) (ascii (codes "address") refl) (plain_utf8 (lines.address_text e.key.address) (plain-address e.key.address)) in
      let name : IsUtf8 (member (codes "struct") (key_text (tables_in published) e.key)) =
      member_utf8 (codes "struct") (key_text (tables_in published) e.key) (ascii (codes "struct") refl) (plain_utf8 (key_text (tables_in published) e.key) (plain-key published store e.key)) in
      let value : IsUtf8 (member (codes "value") (value_text e.value)) = member_utf8 (codes "value") (value_text e.value) (ascii (codes "value") refl) (plain_utf8 (value_text e.value) (plain-value e.value)) in
      object_utf8 (member (codes "address") (lines.address_text e.key.address) ∷ member (codes "struct") (key_text (tables_in published) e.key) ∷ member (codes "value") (value_text e.value) ∷ [])
      (address, (name, (value, tt)))

  each_object : (es : Storage) → AllByRecursion IsUtf8 (map (entry_object (tables_in published)) es)
  each_object [] = tt
  each_object (e ∷ es) = (object_of e, each_object es)

-- the structs of tallies
all_structs : (ts : List Tallied) → AllByRecursion IsPlainStruct (map (λ t. t.struct) ts) → AllByRecursion (λ (t : Tallied). IsPlainStruct t.struct) ts
all_structs [] h = tt
all_structs (t ∷ ts) h = (h.0, all_structs ts h.1)

each_told : (text : ℕ → Tallied → List ℕ) → ((n : ℕ) (t : Tallied) → IsPlainStruct t.struct → IsUtf8 (text n t)) → (storage : Storage) (ts : List Tallied)
    → AllByRecursion (λ (t : Tallied). IsPlainStruct t.struct) ts → AllByRecursion IsUtf8 (map (λ t. text (count storage t.struct) t) ts)
each_told text each storage [] h = tt
each_told text each storage (t ∷ ts) h = (each (count storage t.struct) t h.0, each_told text each storage ts h.1)

module _ (s : LedgerState) (store : IsStore s.published) (tallied : map (λ t. t.struct) s.tallies ≡ scarce_structs (modules_of s)) where
  -- a show
  pub shown_utf8 : (format : Format) → IsUtf8 (ended (shown s format))
  shown_utf8 AsText =
      let last : AllByRecursion IsUtf8 (end_line (length s.storage) ∷ []) = (end_utf8 (length s.storage), tt) in
      ended_utf8 (shown s AsText) (all-append IsUtf8 (map (entry_line (modules_of s)) s.storage) (end_line (length s.storage) ∷ []) (each_entry s.published store s.storage) last)
  shown_utf8 AsJson = ended_utf8 (shown s AsJson) (line_utf8 (codes "show") (map (entry_object (modules_of s)) s.storage) (ascii (codes "show") refl) (each_object s.published store s.storage), tt)

  structs : AllByRecursion (λ (t : Tallied). IsPlainStruct t.struct) s.tallies
  structs = all_structs s.tallies (subst (λ (names : List StructName). AllByRecursion IsPlainStruct names) (sym tallied) (plain-scarce s.published store.passed))

  -- an audit
  pub audited_utf8 : (format : Format) → IsUtf8 (ended (audited s format))
  audited_utf8 AsText =
      let last : AllByRecursion IsUtf8 (end_line (length s.tallies) ∷ []) = (end_utf8 (length s.tallies), tt) in
      ended_utf8 (audited s AsText)
      (all-append IsUtf8 (map (λ t. count_line (count s.storage t.struct) t) s.tallies) (end_line (length s.tallies) ∷ []) (each_told count_line count_utf8 s.storage s.tallies structs) last)
  audited_utf8 AsJson =
      ended_utf8 (audited s AsJson)
      (line_utf8 (codes "audit") (map (λ t. count_object (count s.storage t.struct) t) s.tallies) (ascii (codes "audit") refl) (each_told count_object counts_utf8 s.storage s.tallies structs), tt)
