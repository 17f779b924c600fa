-- Stacks with the topmost last, and what is taken from them.
use Rattle.mv_type_states.proofs.Common.{[], ℕ, ◌&&◌, ◌++◌, ◌+◌, ◌<◌, ◌∙◌, ◌∷◌, ◌≡◌, Bool, List, None, Option, Result, Some, add-one, ap, append_assoc, arith, drop, false}
use Rattle.mv_type_states.proofs.Common.{get_or, length, length-append, map, nat_eq, refl, reverse, subst, suc, sym, take, true, length-reverse, length-take, map-append}
use Rattle.mv_type_states.proofs.Common.{reverse-append, take_all, take_more, same_Some, vec_len, ◌>>=◌, same_token, same_tokens, IsRefusedBy, Refusal, Field, Token}
use Rattle.mv_type_states.proofs.Common.{Follows, Types, provided, taken, takes_gives}
use Rattle.std.proofs.Common.{set, Vec, Global}
use Rattle.mv_move_types.proofs.Refusals.{refused-weaker}
use Rattle.std.proofs.lemmas.List.{reverse-reverse}
use Rattle.std.proofs.Math.Seq.{set-append_seam}
use Rattle.std.proofs.lemmas.Bool.{ne_eqb, eqb-false}
use Rattle.std.proofs.Math.Dec.{eqb-suc-zero}
use Rattle.std.proofs.Math.Bool.{and_assoc}

-- a push puts a type on top
pub reverse-push : (xs : List Token) (x : Token) → reverse (xs ++ x ∷ []) ≡ x ∷ reverse xs
reverse-push xs x = reverse-append xs (x ∷ [])

length_push : (xs : List Token) (x : Token) → length (xs ++ x ∷ []) ≡ suc (length xs)
length_push xs x = rw (length-append, add-one) refl

one_and_others : (b : Bool) (ws : List Token) (s : Types)
    → provided (b && same_tokens (take (length ws) s) (reverse ws)) (drop (length ws) s) ≡ (provided (b && true) s >>= λ below. taken ws below)
one_and_others true ws s = refl
one_and_others false ws s = refl

-- taking more types is taking the last, and then the others
pub taken-last : (ws : List Token) (w : Token) (s : Types) → taken (ws ++ w ∷ []) s ≡ (taken (w ∷ []) s >>= λ below. taken ws below)
taken-last ws w [] = rw (reverse-push ws w, length_push ws w) refl
taken-last ws w (t ∷ s) = rw (reverse-push ws w, length_push ws w) (one_and_others (same_token t w) ws s)

-- types that are not there are refused as others that are then not there either
pub none-after : (e : Refusal) (o q : Option Types) → (o ≡ None → q ≡ None) → IsRefusedBy (λ p. (p ≡ 8) × (o ≡ None)) e → IsRefusedBy (λ p. (p ≡ 8) × (q ≡ None)) e
none-after e o q so = refused-weaker (λ p. (p ≡ 8) × (o ≡ None)) (λ p. (p ≡ 8) × (q ≡ None)) e (λ p r. (r.0, so r.1))

-- where one can't be taken, two can't
pub two-none : (w given : Token) (s : Types) → taken (w ∷ []) s ≡ None → takes_gives (w ∷ w ∷ []) (given ∷ []) s ≡ None
two-none w given s none = ap (λ o. o >>= λ below. Some (reverse (given ∷ []) ++ below)) (taken-last (w ∷ []) w s ∙ ap (λ o. o >>= λ below. taken (w ∷ []) below) none)

-- two are exchanged where one is taken and the next one exchanged
pub two_exchanged : (done : Result (Unit {0}) Refusal) (w given : Token) (s below new : Types) → taken (w ∷ []) s ≡ Some below → Follows done (takes_gives (w ∷ []) (given ∷ []) below) new
    → Follows done (takes_gives (w ∷ w ∷ []) (given ∷ []) s) new
two_exchanged done w given s below new one r =
    let two : takes_gives (w ∷ w ∷ []) (given ∷ []) s ≡ takes_gives (w ∷ []) (given ∷ []) below =
    ap (λ o. o >>= λ below. Some (reverse (given ∷ []) ++ below)) (taken-last (w ∷ []) w s ∙ ap (λ o. o >>= λ below. taken (w ∷ []) below) one) in
    subst (λ o. Follows done o new) (sym two) r

-- one turn of taking types: the last of those that are left, and then the others
pub taken_turn : (left others : List Token) (last : Token) (s new : Types) (whole : Option Types) → left ≡ others ++ last ∷ [] → taken left s ≡ whole → taken (last ∷ []) s ≡ Some new
    → taken others new ≡ whole
taken_turn left others last s new whole cut is one =
    sym (ap (λ ws. taken ws s) cut ∙ taken-last others last s ∙ ap (λ o. o >>= λ below. taken others below) one) ∙ is

-- where the last of them can't be taken, they can't
pub taken-none : (left others : List Token) (last : Token) (s : Types) (whole : Option Types) → left ≡ others ++ last ∷ [] → taken left s ≡ whole → taken (last ∷ []) s ≡ None → whole ≡ None
taken-none left others last s whole cut is none = sym is ∙ ap (λ ws. taken ws s) cut ∙ taken-last others last s ∙ ap (λ o. o >>= λ below. taken others below) none

-- the types of fields, the last of them apart
pub tokens-last : (left others : List Field) (last : Field) → left ≡ others ++ last ∷ [] → map (λ f. f.token) left ≡ map (λ f. f.token) others ++ last.token ∷ []
tokens-last left others last cut = ap (map (λ (f : Field). f.token)) cut ∙ map-append (λ (f : Field). f.token) others (last ∷ [])

-- a type in place of the topmost one
pub exchanged : (xs : List Token) (n : ℕ) (x wanted given : Token) → n + 1 ≡ length xs → x ≡ get_or xs n x → same_token x wanted ≡ true
    → takes_gives (wanted ∷ []) (given ∷ []) (reverse xs) ≡ Some (reverse (set xs n given))
exchanged xs n x wanted given size last same =
    let front = take n xs in
    let n_long : length front ≡ n = omega (arith, length-take n xs) in
    let whole : xs ≡ front ++ x ∷ [] =
    sym (take_all (n + 1) xs (omega arith)) ∙ take_more xs n x (omega arith) ∙ ap (λ t. front ++ t ∷ []) (sym last) in
    let old : takes_gives (wanted ∷ []) (given ∷ []) (reverse xs) ≡ takes_gives (wanted ∷ []) (given ∷ []) (x ∷ reverse front) =
    ap (λ l. takes_gives (wanted ∷ []) (given ∷ []) (reverse l)) whole ∙ ap (takes_gives (wanted ∷ []) (given ∷ [])) (reverse-push front x) in
    let new : set xs n given ≡ front ++ given ∷ [] =
    ap (λ l. set l n given) whole ∙ ap (λ k. set (front ++ x ∷ []) k given) (sym n_long) ∙ set-append_seam front x [] given in
    let there : takes_gives (wanted ∷ []) (given ∷ []) (x ∷ reverse front) ≡ Some (given ∷ reverse front) = rw same refl in
    old ∙ there ∙ ap (λ l. Some l) (sym (ap reverse new ∙ reverse-push front given))

-- one more field's type is pushed
pub pushed_fields : (fields : List Field) (n : ℕ) (f : Field) (first old new : List Token) → n < length fields → old ≡ first ++ map (λ f. f.token) (take n fields)
    → Some ((get_or fields n f).token ∷ reverse old) ≡ Some (reverse new) → new ≡ first ++ map (λ f. f.token) (take (n + 1) fields)
pushed_fields fields n f first old new below is there =
    let token = (get_or fields n f).token in
    let top : reverse new ≡ reverse (old ++ token ∷ []) = sym (same_Some (token ∷ reverse old) (reverse new) there) ∙ sym (reverse-push old token) in
    let all : new ≡ old ++ token ∷ [] = sym (reverse-reverse new) ∙ ap reverse top ∙ reverse-reverse (old ++ token ∷ []) in
    let front : old ++ token ∷ [] ≡ first ++ (map (λ f. f.token) (take n fields) ++ token ∷ []) = rw (is, append_assoc) refl in
    let one : map (λ f. f.token) (take n fields ++ get_or fields n f ∷ []) ≡ map (λ f. f.token) (take n fields) ++ token ∷ [] = rw map-append refl in
    all ∙ front ∙ ap (λ xs. first ++ xs) (sym one) ∙ ap (λ fs. first ++ map (λ f. f.token) fs) (sym (take_more fields n f below))

same_tokens-front : (r s : List Token) → same_tokens s r ≡ (same_tokens (take (length r) s) r && nat_eq (length (drop (length r) s)) 0)
same_tokens-front [] [] = refl
same_tokens-front [] (x ∷ s) = sym (eqb-suc-zero (length s))
same_tokens-front (y ∷ r) [] = refl
same_tokens-front (y ∷ r) (x ∷ s) =
    ap (λ b. same_token x y && b) (same_tokens-front r s) ∙ sym (and_assoc (same_token x y) (same_tokens (take (length r) s) r) (nat_eq (length (drop (length r) s)) 0))

provided_both : (b : Bool) (d : Types) → provided (b && nat_eq (length d) 0) [] ≡ (provided b d >>= λ below. provided (nat_eq (length below) 0) [])
provided_both true d = refl
provided_both false d = refl

-- these types alone are on the stack where they can be taken and nothing is left
pub alone : (rs : List Token) (s : Types) → provided (same_tokens s (reverse rs)) [] ≡ (taken rs s >>= λ below. provided (nat_eq (length below) 0) [])
alone rs s =
    let front : same_tokens s (reverse rs) ≡ (same_tokens (take (length rs) s) (reverse rs) && nat_eq (length (drop (length rs) s)) 0) =
    rw length-reverse at (same_tokens-front (reverse rs) s) in
    ap (λ b. provided b []) front ∙ provided_both (same_tokens (take (length rs) s) (reverse rs)) (drop (length rs) s)

-- where the types can't be taken, they aren't alone on the stack
pub alone-none : (rs : List Token) (s : Types) → taken rs s ≡ None → provided (same_tokens s (reverse rs)) [] ≡ None
alone-none rs s none = rw (alone rs s, none) refl

-- something is left below them
pub alone-left : (rs : List Token) (s : Types) (new : List Token) → taken rs s ≡ Some (reverse new) → 0 < length new → provided (same_tokens s (reverse rs)) [] ≡ None
alone-left rs s new e some = rw (alone rs s, e, length-reverse, ne_eqb (length new) 0 (λ z. omega arith)) refl

pub full_stack : (v : Vec Token Global) (r : Bool) → r ≡ nat_eq (vec_len v) 0 → r ≡ false → 0 < length v.items
full_stack v r e t = let z : vec_len v ≡ 0 → ⊥ = eqb-false (vec_len v) 0 (sym e ∙ t) in let same = v.ok.0 in omega arith
