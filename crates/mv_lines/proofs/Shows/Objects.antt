-- The compact text of an entry is its object in JSON, since its texts are plain.
use Rattle.mv_lines.proofs.Common.{[], ◌++◌, ◌∙◌, ◌∷◌, ◌≡◌, AllByRecursion, IsPlain, List, ap, append-nil, append_assoc, arith, codes, false, first_so, is_plain, list_all, map, member, nat_tests, object}
use Rattle.mv_lines.proofs.Common.{refl, second_so, sym, true, with_commas, ℕ}
use Rattle.json.specs.Print.{escape, escape_byte, quoted}
use Rattle.serde_json.specs.Data as values
use Rattle.serde_json.specs.Written.{compact_text, members_have_float, members_text}
use Rattle.mv_lines.specs.Sending.{members_of}

-- ---- texts

byte_stays : (b : ℕ) → is_plain b ≡ true → escape_byte b ≡ b ∷ []
unfolding escape_byte
byte_stays b plain = grind (arith, nat_tests)

escape_stays : (text : List ℕ) → IsPlain text → escape text ≡ text
escape_stays [] plain = refl
escape_stays (b ∷ bs) plain =
    ap (λ (l : List ℕ). l ++ escape bs) (byte_stays b (first_so (is_plain b) (list_all is_plain bs) plain)) ∙ ap (λ (l : List ℕ). b ∷ l) (escape_stays bs (second_so (is_plain b) (list_all is_plain bs) plain))

-- ---- one after the other

-- texts, each after a comma
abbrev each_after : List (List ℕ) → List ℕ
each_after [] = []
each_after (t ∷ ts) = 44 ∷ (t ++ each_after ts)

commas : (t : List ℕ) (ts : List (List ℕ)) → with_commas (t ∷ ts) ≡ t ++ each_after ts
commas t [] = sym (append-nil t)
commas t (u ∷ ts) = append_assoc t (codes ",") (with_commas (u ∷ ts)) ∙ ap (λ (l : List ℕ). t ++ (44 ∷ l)) (commas u ts)

-- ---- objects of plain texts

abbrev pub IsPlainMember : List ℕ × List ℕ → Type 0
IsPlainMember m = IsPlain m.0 × IsPlain m.1

abbrev pub member_texts : List (List ℕ × List ℕ) → List (List ℕ)
member_texts = map (λ m. member m.0 m.1)

quoted-member : (k t rest : List ℕ) → IsPlain k → IsPlain t → quoted k ++ 58 ∷ (quoted t ++ rest) ≡ member k t ++ rest
quoted-member k t rest kp tp =
    let a = escape_stays k kp in
    let b = escape_stays t tp in
    ap (λ (l : List ℕ). (34 ∷ (l ++ 34 ∷ [])) ++ 58 ∷ ((34 ∷ (escape t ++ 34 ∷ [])) ++ rest)) a
    ∙ ap (λ (l : List ℕ). (34 ∷ (k ++ 34 ∷ [])) ++ 58 ∷ ((34 ∷ (l ++ 34 ∷ [])) ++ rest)) b
    ∙ simp append_assoc

members-after : (ms : List (List ℕ × List ℕ)) → AllByRecursion IsPlainMember ms → members_text true (members_of ms) ≡ each_after (member_texts ms) ++ 125 ∷ []
members-after [] plain = refl
members-after (m ∷ ms) plain =
    ap (λ (l : List ℕ). 44 ∷ l) (quoted-member m.0 m.1 (members_text true (members_of ms)) plain.0.0 plain.0.1 ∙ ap (λ (l : List ℕ). member m.0 m.1 ++ l) (members-after ms plain.1)
    ∙ sym (append_assoc (member m.0 m.1) (each_after (member_texts ms)) (125 ∷ [])))

pub object_text : (ms : List (List ℕ × List ℕ)) → AllByRecursion IsPlainMember ms → compact_text (values.object (members_of ms)) ≡ object (member_texts ms)
object_text [] plain = refl
object_text (m ∷ ms) plain =
    ap (λ (l : List ℕ). 123 ∷ l) (quoted-member m.0 m.1 (members_text true (members_of ms)) plain.0.0 plain.0.1 ∙ ap (λ (l : List ℕ). member m.0 m.1 ++ l) (members-after ms plain.1)
    ∙ sym (append_assoc (member m.0 m.1) (each_after (member_texts ms)) (125 ∷ [])) ∙ ap (λ (l : List ℕ). l ++ 125 ∷ []) (sym (commas (member m.0 m.1) (member_texts ms))))

-- texts are no floats
pub members_whole : (ms : List (List ℕ × List ℕ)) → members_have_float (members_of ms) ≡ false
members_whole [] = refl
members_whole (m ∷ ms) = members_whole ms
