-- The values of fields, and their text, one after the other.
use Rattle.mv_lines.proofs.Common.{[], ◌++◌, ◌+◌, ◌<◌, ◌∙◌, ◌∷◌, ◌≡◌, Bor, List, None, Option, Some, ap, append-nil, append_assoc, arith, codes, drop, length, length-append, refl, sym, ℕ, ◌>>=◌}
use Rattle.mv_lines.proofs.Common.{rest_text, value_text, More, NoMore, Value, Values, Part, PutsText, fields_text, Extends, parts_from}

-- ---- what was put

pub puts_some : {A : Type 0} (text : A → List ℕ) (o : Option (A × List ℕ)) (rest : Bor (List ℕ)) (old new : List ℕ) → PutsText text o (Some rest) old new
    → (v : A) × ((o ≡ Some (v, rest.now)) × (new ≡ old ++ text v))
puts_some text None rest old new h = cc
puts_some text (Some p) rest old new h =
    let same : rest.now ≡ p.1 = cc (h.0) in
    (p.0, (ap (λ r. Some (p.0, r)) (sym same), h.1))

-- a text begins with itself, and with what it began with once more is put
pub extends-same : (old : List ℕ) → Extends old old
extends-same old = ([], sym (append-nil old))

pub extends-more : (old new newer : List ℕ) → Extends old new → Extends new newer → Extends old newer
extends-more old new newer first second = (first.0 ++ second.0, second.1 ∙ ap (λ l. l ++ second.0) first.1 ∙ append_assoc old first.0 second.0)

-- ---- values one after the other

-- some values, and others after them
abbrev pub fields_before : List Value → Values → Values
fields_before [] vs = vs
fields_before (v ∷ done) vs = More v (fields_before done vs)

fields_before-push : (done : List Value) (v : Value) (vs : Values) → fields_before (done ++ v ∷ []) vs ≡ fields_before done (More v vs)
fields_before-push [] v vs = refl
fields_before-push (d ∷ done) v vs = ap (More d) (fields_before-push done v vs)

-- some values, and those after them if there are any
abbrev pub after : List Value → Option (Values × List ℕ) → Option (Values × List ℕ)
after done None = None
after done (Some p) = Some (fields_before done p.0, p.1)

after-push : (done : List Value) (v : Value) (o : Option (Values × List ℕ)) → after done (o >>= λ r. Some (More v r.0, r.1)) ≡ after (done ++ v ∷ []) o
after-push done v None = refl
after-push done v (Some p) = ap (λ vs. Some (vs, p.1)) (sym (fields_before-push done v p.0))

-- the fields of which the first has this value
after-field : (value : Part → List ℕ → Option (Value × List ℕ)) (f : Part) (fs : List Part) (words more : List ℕ) (v : Value) → value f words ≡ Some (v, more)
    → parts_from value (f ∷ fs) words ≡ (parts_from value fs more >>= λ r. Some (More v r.0, r.1))
after-field value f fs words more v e = ap (λ o. o >>= λ first. parts_from value fs first.1 >>= λ r. Some (More first.0 r.0, r.1)) e

-- ---- their text

rest_text-push : (done : List Value) (v : Value) → rest_text (fields_before (done ++ v ∷ []) NoMore) ≡ rest_text (fields_before done NoMore) ++ (codes "," ++ value_text v)
rest_text-push [] v = append-nil (codes "," ++ value_text v)
rest_text-push (d ∷ done) v =
    ap (λ t. (codes "," ++ value_text d) ++ t) (rest_text-push done v)
    ∙ sym (append_assoc (codes "," ++ value_text d) (rest_text (fields_before done NoMore)) (codes "," ++ value_text v))

-- the first has no comma
fields_text-first : (done : List Value) (v : Value) → length done ≡ 0 → fields_text (fields_before (done ++ v ∷ []) NoMore) ≡ fields_text (fields_before done NoMore) ++ value_text v
fields_text-first [] v none = append-nil (value_text v)
fields_text-first (d ∷ done) v none = absurd (omega arith)

-- each other has one
fields_text-later : (done : List Value) (v : Value) → 0 < length done → fields_text (fields_before (done ++ v ∷ []) NoMore) ≡ (fields_text (fields_before done NoMore) ++ codes ",") ++ value_text v
fields_text-later [] v some = absurd (omega arith)
fields_text-later (d ∷ done) v some =
    ap (λ t. value_text d ++ t) (rest_text-push done v)
    ∙ sym (append_assoc (value_text d) (rest_text (fields_before done NoMore)) (codes "," ++ value_text v))
    ∙ sym (append_assoc (value_text d ++ rest_text (fields_before done NoMore)) (codes ",") (value_text v))

-- ---- so many of the fields were put, and these words are left

abbrev pub HasPut : (Part → List ℕ → Option (Value × List ℕ)) → List Part → ℕ → List ℕ → List ℕ → List ℕ → List ℕ → Type 0
HasPut value all n words rest old new =
    (done : List Value) × ((length done ≡ n) × (parts_from value all words ≡ after done (parts_from value (drop n all) rest)) × (new ≡ old ++ fields_text (fields_before done NoMore)))

length-push : (done : List Value) (v : Value) (n : ℕ) → length done ≡ n → length (done ++ v ∷ []) ≡ n + 1
length-push done v n e = omega (arith, e, length-append done (v ∷ []))

module _ (value : Part → List ℕ → Option (Value × List ℕ)) (all : List Part) (n : ℕ) (words rest old new : List ℕ) (f : Part) (h : HasPut value all n words rest old new)
    (left : drop n all ≡ f ∷ drop (n + 1) all) where
  following : (more : List ℕ) (v : Value) → value f rest ≡ Some (v, more) → parts_from value all words ≡ after (h.0 ++ v ∷ []) (parts_from value (drop (n + 1) all) more)
  following more v e =
      h.1.1 ∙ ap (λ l. after h.0 (parts_from value l rest)) left ∙ ap (after h.0) (after-field value f (drop (n + 1) all) rest more v e)
      ∙ after-push h.0 v (parts_from value (drop (n + 1) all) more)

  pub HasPut-first : (more : Bor (List ℕ)) (new2 : List ℕ) → n ≡ 0 → PutsText value_text (value f rest) (Some more) new new2 → HasPut value all (n + 1) words more.now old new2
  HasPut-first more new2 first put =
      let p = puts_some value_text (value f rest) more new new2 put in
      let so_far : List ℕ = fields_text (fields_before h.0 NoMore) in
      let text : new2 ≡ old ++ fields_text (fields_before (h.0 ++ p.0 ∷ []) NoMore) =
      p.1.1 ∙ ap (λ l. l ++ value_text p.0) h.1.2 ∙ append_assoc old so_far (value_text p.0) ∙ ap (λ l. old ++ l) (sym (fields_text-first h.0 p.0 (h.1.0 ∙ first))) in
      (h.0 ++ p.0 ∷ [], (length-push h.0 p.0 n h.1.0, following more.now p.0 p.1.0, text))

  pub HasPut-later : (more : Bor (List ℕ)) (new2 : List ℕ) → 0 < n → PutsText value_text (value f rest) (Some more) (new ++ codes ",") new2 → HasPut value all (n + 1) words more.now old new2
  HasPut-later more new2 later put =
      let p = puts_some value_text (value f rest) more (new ++ codes ",") new2 put in
      let so_far : List ℕ = fields_text (fields_before h.0 NoMore) in
      let some : 0 < length h.0 = omega (arith, later, h.1.0) in
      let text : new2 ≡ old ++ fields_text (fields_before (h.0 ++ p.0 ∷ []) NoMore) =
      p.1.1 ∙ ap (λ l. (l ++ codes ",") ++ value_text p.0) h.1.2 ∙ ap (λ l. l ++ value_text p.0) (append_assoc old so_far (codes ",")) ∙ append_assoc old (so_far ++ codes ",") (value_text p.0)
      ∙ ap (λ l. old ++ l) (sym (fields_text-later h.0 p.0 some)) in
      (h.0 ++ p.0 ∷ [], (length-push h.0 p.0 n h.1.0, following more.now p.0 p.1.0, text))
