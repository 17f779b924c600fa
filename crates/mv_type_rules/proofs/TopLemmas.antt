-- The topmost types of stacks.
use Rattle.mv_type_rules.proofs.Common.{[], ℕ, ◌++◌, ◌+◌, ◌-◌, ◌<◌, ◌∙◌, ◌∷◌, ◌≡◌, ◌≤◌, Bool, Err, List, Result, Some, ap, arith, drop, false, length, length-drop, map, nat_le, refl}
use Rattle.mv_type_rules.proofs.Common.{reverse, slice_get, sym, take, true, length-reverse, map-append, reverse-append, take-append-le, take_all, take_more, get_or_from_slice_get}
use Rattle.mv_type_rules.proofs.Common.{slice_get_within, FunctionDefinition, Module, Token, types_before, tops_before, tops_of, Types}
use Rattle.std.proofs.Common.{Ok, IfOk}
use Rattle.std.proofs.lemmas.Bool.{leb-true, leb-false}
use Rattle.std.proofs.lemmas.List.{take-append-drop, take-take}

-- the last two of a list are the first two of its reverse
pub reverse-last_two : (xs : List Token) → reverse (drop (length xs - 2) xs) ≡ take 2 (reverse xs)
reverse-last_two xs = by_size (nat_le 2 (length xs)) refl
  where
    last : List Token
    last = drop (length xs - 2) xs

    whole : reverse xs ≡ reverse last ++ reverse (take (length xs - 2) xs)
    whole = ap reverse (sym (take-append-drop (length xs - 2) xs)) ∙ reverse-append (take (length xs - 2) xs) last

    long : length (reverse last) ≡ length xs - (length xs - 2)
    long = length-reverse last ∙ length-drop (length xs - 2) xs

    by_size : (b : Bool) → nat_le 2 (length xs) ≡ b → reverse last ≡ take 2 (reverse xs)
    by_size true e =
        let two : 2 ≤ length xs = leb-true 2 (length xs) e in
        let enough : 2 ≤ length (reverse last) = omega (arith, long) in
        let all : length (reverse last) ≤ 2 = omega (arith, long) in
        sym (take_all 2 (reverse last) all) ∙ sym (take-append-le 2 (reverse last) (reverse (take (length xs - 2) xs)) enough) ∙ ap (take 2) (sym whole)
    by_size false e =
        let few : length xs < 2 = leb-false 2 (length xs) e in
        let none : length xs - 2 ≡ 0 = omega arith in
        let all : length (reverse xs) ≤ 2 = omega (arith, length-reverse xs) in
        ap (λ n. reverse (drop n xs)) none ∙ sym (take_all 2 (reverse xs) all)

-- the topmost types of the topmost are these
pub tops_of-again : (stacks : List Types) → tops_of (tops_of stacks) ≡ tops_of stacks
tops_of-again [] = refl
tops_of-again (s ∷ stacks) =
    ap (λ t. t ∷ tops_of (tops_of stacks)) (take-take 2 2 s (omega arith)) ∙ ap (λ l. take 2 s ∷ l) (tops_of-again stacks)

-- a list that was trimmed to the topmost types has the same topmost types
pub tops-kept : {E : Type 0} (r : Result (List Types) E) (stacks : List Types) → IfOk r (λ t. t ≡ tops_of stacks) → IfOk r (λ t. tops_of t ≡ tops_of stacks)
tops-kept (Ok t) stacks is = ap tops_of is ∙ tops_of-again stacks
tops-kept (Err e) stacks is = tt

-- one more stack's topmost types
pub tops_of-push : (all : List Types) (n : ℕ) (stack : Types) (tops : List Types) → slice_get all n ≡ Some stack → tops ≡ tops_of (take n all) → tops ++ take 2 stack ∷ [] ≡ tops_of (take (n + 1) all)
tops_of-push all n stack tops at is =
    let more : take (n + 1) all ≡ take n all ++ stack ∷ [] =
    take_more all n stack (slice_get_within all n stack at) ∙ ap (λ s. take n all ++ s ∷ []) (get_or_from_slice_get all n stack stack at) in
    ap (λ l. l ++ take 2 stack ∷ []) is ∙ sym (map-append (take 2) (take n all) (stack ∷ [])) ∙ ap tops_of (sym more)

-- where each function's types are listed, so are the topmost
pub tops-listed : (m : Module) (stacks : List (List Types)) (fs : List FunctionDefinition) → stacks ≡ map (types_before m) fs → map tops_of stacks ≡ map (tops_before m) fs
tops-listed m stacks fs is = ap (map tops_of) is ∙ each fs
  where
    each : (fs : List FunctionDefinition) → map tops_of (map (types_before m) fs) ≡ map (tops_before m) fs
    each [] = refl
    each (d ∷ ds) = ap (λ l. tops_before m d ∷ l) (each ds)
