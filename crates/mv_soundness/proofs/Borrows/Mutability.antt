-- A frame's references have the mutability that the types say.
use Rattle.mv_soundness.proofs.Borrows.Common.{refl, sym, ◌≡◌, ℕ, List, [], ◌∷◌, true, false, inl, inr, ap, map, length, Option, Some, None, Bool, ◌∙◌, eqb_tells, length-map, same_Some}
use Rattle.mv_soundness.proofs.Borrows.Common.{option_map_or, option_and_then, Token, Plain, Reference, Value, TheNode, AtTemp, TheRef, Live, AtSlot, seen_frame, is_mutable_token}
use Rattle.mv_soundness.proofs.Borrows.Common.{is_reference_token, Point, Seen, token_kind, operand_kind, Fits, ref_of, activation, operands_of, kind_at}
use Rattle.mv_soundness.proofs.Borrows.Lists.{place_get, local-back, stack-back, place-reverse}

pub kind-mutable : (t : Token) (b : Bool) → token_kind t ≡ Some b → is_mutable_token t ≡ b
kind-mutable (Plain t) b h = absurd cc
kind-mutable t b h = cc

pub kind-reference : (t : Token) (b : Bool) → token_kind t ≡ Some b → is_reference_token t ≡ true
kind-reference (Plain t) b h = absurd cc
kind-reference t b h = refl

pub operand-plain : (t : Token) (o : Option Reference) → token_kind t ≡ operand_kind o → is_reference_token t ≡ false → o ≡ None
operand-plain t None h k = refl
operand-plain (Plain t) (Some r) h k = absurd cc
operand-plain t (Some r) h k = absurd cc

-- lists of one kind are as long, and of one kind at each place
pub kinds-length : (ts : List Token) (os : List (Option Reference)) → map token_kind ts ≡ map operand_kind os → length ts ≡ length os
kinds-length ts os h = sym (length-map ts token_kind) ∙ ap length h ∙ length-map os operand_kind

first-eq : {A : Type 0} (x y : A) (xs ys : List A) → (x ∷ xs) ≡ (y ∷ ys) → (x ≡ y) × (xs ≡ ys)
first-eq x y xs ys h = (cc, cc)

pub kind-at : (ts : List Token) (os : List (Option Reference)) → map token_kind ts ≡ map operand_kind os → (k : ℕ) (o : Option Reference) → place_get os k ≡ Some o
    → (t : Token) × (place_get ts k ≡ Some t) × (token_kind t ≡ operand_kind o)
kind-at (t ∷ ts) (x ∷ os) h k o e =
    let both = first-eq (token_kind t) (operand_kind x) (map token_kind ts) (map operand_kind os) h in
    let long : length ts ≡ length os = kinds-length ts os both.1 in
    elim (eqb_tells k (length os)) [
      | inl u ↦ (t, rw (long, u.0) refl, both.0 ∙ ap operand_kind (same_Some x o (rw u.0 at e)))
      | inr u ↦ let r = kind-at ts os both.1 k o (rw u.0 at e) in (r.0, rw (long, u.0) r.1, r.2)
    ]
kind-at ts [] h k o e = absurd cc
kind-at [] (x ∷ os) h k o e = absurd cc

same-mutable : (q : TheRef) (r : Reference) → q ≡ ref_of r → r.is_mutable ≡ q.mutable
same-mutable q r h = sym (ap (λ (x : TheRef). x.mutable) h)

-- what the theory asks of the types
pub kinds : (p : Point) (acquires : List ℕ) (v : Seen) → Fits p v → (n : TheNode) (q : TheRef) → Live (seen_frame (activation acquires v)) n q → kind_at p n ≡ q.mutable
kinds p acquires v fits (AtSlot l) q h =
    let t = local-back v.frame.locals l q h in
    let u = fits.locals l t.0 (ap (λ (x : Option (Option Value)). option_and_then (λ y. y) x) t.2) in
    ap (λ (x : Option Token). option_map_or is_mutable_token x false) u.1
    ∙ kind-mutable u.0 t.1.is_mutable (u.2 ∙ ap operand_kind t.3) ∙ same-mutable q t.1 t.4
kinds p acquires v fits (AtTemp k) q h =
    let t = stack-back (operands_of v) k q h in
    let u = kind-at p.types (operands_of v) fits.stack k (Some t.0) t.1 in
    ap (λ (x : Option Token). option_map_or is_mutable_token x false) (place-reverse p.types k ∙ u.1)
    ∙ kind-mutable u.0 t.0.is_mutable u.2 ∙ same-mutable q t.0 t.2
kinds p acquires v fits n q h = absurd cc
