-- The ordered text: its headers and its contents, one table after another.
use Rattle.mv_binary_format.proofs.Common.{[], ℕ, ◌++◌, ◌+◌, ◌-◌, ◌<◌, ◌∙◌, ◌∷◌, ◌≡◌, ◌≤◌, Err, IfOk, List, Ok, Result, ap, append_assoc, arith, cond, inl, inr, length, length-append}
use Rattle.mv_binary_format.proofs.Common.{nat_lt, refl, sym, cases_lt, lt-ltb, append-nil, IsPermutation-refl, flat_map, Module, HasText, Header, IsModuleText, Table, headers_from}
use Rattle.mv_binary_format.proofs.Common.{ordered_text, tables, AreOf}
use Rattle.std.proofs.lemmas.List.Elements.{filter-append}
use Rattle.std.proofs.lemmas.List.Concat.{flat_map-append}
use Rattle.std.proofs.lemmas.Bool.{le-ltb}
use Rattle.mv_binary_format.specs.ModuleText.{with_bytes}

-- the headers of more tables
headers_from-append : (offset : ℕ) (ts us : List Table) → headers_from offset (ts ++ us) ≡ headers_from offset ts ++ headers_from (offset + length (flat_map (λ t. t.content) ts)) us
headers_from-append offset [] us = let z : offset ≡ offset + 0 = omega arith in ap (λ o. headers_from o us) z
headers_from-append offset (t ∷ ts) us =
    let h = headers_from-append (offset + length t.content) ts us in
    let l : (offset + length t.content) + length (flat_map (λ t. t.content) ts) ≡ offset + length (t.content ++ flat_map (λ t. t.content) ts) = omega (arith, length-append t.content (flat_map (λ t. t.content) ts)) in
    ap (λ hs. record { kind = t.kind; offset = offset; length = length t.content } ∷ hs) (h ∙ ap (λ o. headers_from (offset + length t.content) ts ++ headers_from o us) l)

no_length : (xs : List ℕ) → length xs ≡ 0 → xs ≡ []
no_length [] e = refl
no_length (x ∷ xs) e = absurd (omega arith)

-- one more table
pub AreOf-next : (kind : ℕ) (content : List ℕ) (ts : List Table) (hs hs' : List Header) (cs cs' : List ℕ) (start end : ℕ) → AreOf ts hs cs → cs' ≡ cs ++ content → start ≡ length cs → end ≡ length cs'
    → hs' ≡ hs ++ cond (nat_lt start end) (record { kind = kind; offset = start; length = end - start } ∷ []) []
    → AreOf (ts ++ record { kind = kind; content = content } ∷ []) hs' cs'
AreOf-next kind content ts hs hs' cs cs' start end a e s n h =
    let t : Table = record { kind = kind; content = content } in
    let split : with_bytes (ts ++ t ∷ []) ≡ with_bytes ts ++ with_bytes (t ∷ []) = filter-append (λ t. nat_lt 0 (length t.content)) ts (t ∷ []) in
    let grown : length cs' ≡ length cs + length content = ap length e ∙ length-append cs content in
    elim (cases_lt 0 (length content)) [
      | inl lt ↦
          let one : with_bytes (t ∷ []) ≡ t ∷ [] = rw (lt-ltb 0 (length content) lt) refl in
          let all : with_bytes (ts ++ t ∷ []) ≡ with_bytes ts ++ t ∷ [] = split ∙ ap (λ z. with_bytes ts ++ z) one in
          let more : start < end = omega arith in
          let h' : hs' ≡ hs ++ record { kind = kind; offset = start; length = end - start } ∷ [] = rw (lt-ltb start end more) at h in
          let o : start ≡ 0 + length (flat_map (λ t. t.content) (with_bytes ts)) = (let z : length cs ≡ length (flat_map (λ t. t.content) (with_bytes ts)) = ap length a.contents_are in omega arith) in
          let d : end - start ≡ length content = omega arith in
          record {
            headers_are = h' ∙ ap (λ z. z ++ record { kind = kind; offset = start; length = end - start } ∷ []) a.headers_are
                ∙ ap (λ z. headers_from 0 (with_bytes ts) ++ record { kind = kind; offset = start; length = z } ∷ []) d
                ∙ ap (λ z. headers_from 0 (with_bytes ts) ++ record { kind = kind; offset = z; length = length content } ∷ []) o
                ∙ sym (headers_from-append 0 (with_bytes ts) (t ∷ [])) ∙ ap (headers_from 0) (sym all);
            contents_are = e ∙ ap (λ z. z ++ content) a.contents_are ∙ ap (λ z. flat_map (λ t. t.content) (with_bytes ts) ++ z) (sym (append-nil content))
                ∙ sym (flat_map-append (λ (t : Table). t.content) (with_bytes ts) (t ∷ [])) ∙ ap (flat_map (λ t. t.content)) (sym all);
          }
      | inr ge ↦
          let zero_long : length content ≡ 0 = omega arith in
          let none : content ≡ [] = no_length content zero_long in
          let one : with_bytes (t ∷ []) ≡ [] = rw (le-ltb 0 (length content) ge) refl in
          let all : with_bytes (ts ++ t ∷ []) ≡ with_bytes ts = split ∙ ap (λ z. with_bytes ts ++ z) one ∙ append-nil (with_bytes ts) in
          let more : end ≤ start = omega arith in
          let h' : hs' ≡ hs ++ [] = rw (le-ltb start end more) at h in
          record {
            headers_are = h' ∙ append-nil hs ∙ a.headers_are ∙ ap (headers_from 0) (sym all);
            contents_are = e ∙ ap (λ z. cs ++ z) none ∙ append-nil cs ∙ a.contents_are ∙ ap (flat_map (λ t. t.content)) (sym all);
          }
    ]

-- no tables yet
pub AreOf-start : AreOf [] [] []
AreOf-start = record { headers_are = refl; contents_are = refl }

-- five parts
pub five : (p a b c d : List ℕ) → (((p ++ a) ++ b) ++ c) ++ d ≡ p ++ (((a ++ b) ++ c) ++ d)
five p a b c d = simp append_assoc

-- a module that has a text has its ordered one
pub ordered_is_text : (m : Module) → HasText m → IsModuleText (ordered_text m) m
ordered_is_text m fits = record {
  contents = tables m;
  headers = headers_from 0 (tables m);
  tiled = IsPermutation-refl (tables m);
  listed = IsPermutation-refl (headers_from 0 (tables m));
  text = refl;
  fits = fits;
}

-- what follows from two facts of what was returned
pub IfOk-both : {T E : Type 0} (r : Result T E) (P Q R : T → Type 0) → ((x : T) → P x → Q x → R x) → IfOk r P → IfOk r Q → IfOk r R
IfOk-both (Ok x) P Q R f p q = f x p q
IfOk-both (Err e) P Q R f p q = p
