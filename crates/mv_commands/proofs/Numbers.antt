-- A text that writes a number.
use Rattle.std.proofs.Common.{◌≡◌, ℕ, ◌<◌, ◌^◌, List, [], ◌∷◌, length, Bool, true, false, nat_lt, ◌&&◌, Option, Some, None, refl, ap, inl, inr}
use Rattle.std.specs.Char.{digit_value}
use Rattle.std.specs.List.{list_all}
use Rattle.std.specs.Str.Parse.{AllDigits, IsNumeral, digits_value, without_leading_plus}
use Rattle.std.proofs.lemmas.Bool.{and_parts, cases_Bool, lt-ltb, ltb-true}
use Rattle.mv_commands.specs.Line.{number_of}

all-digits : (ds : List ℕ) → AllDigits 10 ds → list_all (λ c. nat_lt (digit_value c) 10) ds ≡ true
all-digits [] h = refl
all-digits (c ∷ cs) h = rw (lt-ltb (digit_value c) 10 h.0) (all-digits cs h.1)

digits-all : (ds : List ℕ) → list_all (λ c. nat_lt (digit_value c) 10) ds ≡ true → AllDigits 10 ds
digits-all [] h = tt
digits-all (c ∷ cs) h =
    let p = and_parts (nat_lt (digit_value c) 10) (list_all (λ c. nat_lt (digit_value c) 10) cs) h in
    (ltb-true (digit_value c) 10 p.0, digits-all cs p.1)

-- the digits write a number that 64 bits hold
abbrev pub Writes : List ℕ → Type 0
Writes ds = IsNumeral 10 ds × (digits_value 10 ds < 2 ^ 64)

-- it is the number of the text
pub number-is : (text : List ℕ) (n : ℕ) → Writes (without_leading_plus text) → n ≡ digits_value 10 (without_leading_plus text) → Some n ≡ number_of text
number-is text n h is =
    let ds : List ℕ = without_leading_plus text in
    rw (lt-ltb 0 (length ds) h.0.0, all-digits ds h.0.1, lt-ltb (digits_value 10 ds) (2 ^ 64) h.1) (ap (λ m. Some m) is)

-- otherwise there is none
pub number-none : (text : List ℕ) → (Writes (without_leading_plus text) → ⊥) → None ≡ number_of text
number-none text other =
    let ds : List ℕ = without_leading_plus text in
    let some : Bool = nat_lt 0 (length ds) in
    let all : Bool = list_all (λ c. nat_lt (digit_value c) 10) ds in
    let fits : Bool = nat_lt (digits_value 10 ds) (2 ^ 64) in
    elim (cases_Bool (some && all && fits)) [
      | inl holds ↦
          let p = and_parts (some && all) fits holds in
          let q = and_parts some all p.0 in
          absurd (other ((ltb-true 0 (length ds) q.0, digits-all ds q.1), ltb-true (digits_value 10 ds) (2 ^ 64) p.1))
      | inr fails ↦ rw fails refl
    ]
