-- An input is one list of records.
use Rattle.std.proofs.Common.{◌≡◌, ℕ, List, [], ◌∷◌, ◌++◌, length, refl, sym, ap, ap₂, ◌∙◌, subst, append_assoc}
use Rattle.std.proofs.lemmas.List.{append_cancel_left}
use Rattle.mv_uleb.proofs.Spelled.{one_form}
use Rattle.mv_saved_text.proofs.SavedOnce.{bytes-one}
use Rattle.moveledger.specs.Records.{Record, Whole, Cut, IsText, Begins, AreRecords}

text_one : (f g x y : List ℕ) (k l : ℕ) (p q : List ℕ) → IsText f k p → IsText g l q → f ++ x ≡ g ++ y → (k ≡ l) × (p ≡ q) × (x ≡ y)
text_one f g x y k l p q t u e =
    let joined : k ∷ ((t.0 ++ p) ++ x) ≡ l ∷ ((u.0 ++ q) ++ y) = sym (ap (λ z. z ++ x) t.3) ∙ e ∙ ap (λ z. z ++ y) u.3 in
    let kinds : k ≡ l = cc in
    let rest : (t.0 ++ p) ++ x ≡ (u.0 ++ q) ++ y = cc in
    let turned : t.0 ++ (p ++ x) ≡ u.0 ++ (q ++ y) = sym (append_assoc t.0 p x) ∙ rest ∙ append_assoc u.0 q y in
    let lens = one_form t.0 u.0 (p ++ x) (q ++ y) (length p) (length q) t.1 u.1 turned in
    let tails : p ++ x ≡ q ++ y = append_cancel_left u.0 (p ++ x) (q ++ y) (sym (ap (λ z. z ++ (p ++ x)) lens.0) ∙ turned) in
    let parts = bytes-one p q x y lens.1 tails in
    (kinds, parts.0, parts.1)

pub begins_one : (input : List ℕ) (r s : Record) (x y : List ℕ) → Begins input r x → Begins input s y → (r ≡ s) × (x ≡ y)
begins_one input (Whole k p) (Whole l q) x y b c =
    let one = text_one b.0 c.0 x y k l p q b.1 c.1 (sym b.2 ∙ c.2) in
    (ap₂ Whole one.0 one.1, one.2)
begins_one input (Whole k p) Cut x y b c = absurd (c.1 k p b.0 x b.1 b.2)
begins_one input Cut (Whole l q) x y b c = absurd (b.1 l q c.0 y c.1 c.2)
begins_one input Cut Cut x y b c = (refl, b.2 ∙ sym c.2)

pub nothing_begins : (input : List ℕ) (r : Record) (x : List ℕ) → input ≡ [] → Begins input r x → ⊥
nothing_begins input (Whole k p) x e b =
    let bad : [] ≡ k ∷ ((b.1.0 ++ p) ++ x) = sym e ∙ b.2 ∙ ap (λ z. z ++ x) b.1.3 in cc
nothing_begins input Cut x e b = b.0 e

pub one_reading_lem : (a b : List Record) (input : List ℕ) → AreRecords input a [] → AreRecords input b [] → a ≡ b
one_reading_lem [] [] input p q = refl
one_reading_lem [] (s ∷ b) input p q = absurd (nothing_begins input s q.0 p q.1)
one_reading_lem (r ∷ a) [] input p q = absurd (nothing_begins input r p.0 q p.1)
one_reading_lem (r ∷ a) (s ∷ b) input p q =
    let one = begins_one input r s p.0 q.0 p.1 q.1 in
    ap₂ (λ (u : Record) (v : List Record). u ∷ v) one.0 (one_reading_lem a b q.0 (subst (λ z. AreRecords z a []) one.1 p.2) q.2)
