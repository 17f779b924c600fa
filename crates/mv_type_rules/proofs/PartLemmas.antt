-- Parts of one list, as it grows.
use Rattle.mv_type_rules.proofs.Common.{[], ℕ, ◌++◌, ◌+◌, ◌-◌, ◌∙◌, ◌∷◌, ◌≡◌, ◌≤◌, List, ap, arith, drop, length, length-drop, reverse, suc, take, take-append-le, take_all, slice_range}
use Rattle.mv_type_rules.proofs.Common.{Token, types_of_each}
use Rattle.std.specs.List.{All}
use Rattle.std.proofs.lemmas.List.{drop-append-le}
use Rattle.std.proofs.Math.Seq.{drop-append_seam}
use Rattle.mv_type_rules.specs.declared.stack_types.Part.{Part}
use Rattle.mv_type_rules.specs.Stacks.{types_of, IsWithin}

-- a part of the list stays as it is
range-within : (xs ys : List Token) (i j : ℕ) → i ≤ j → j ≤ length xs → slice_range (xs ++ ys) i j ≡ slice_range xs i j
range-within xs ys i j up within =
    let low : i ≤ length xs = omega (arith, up, within) in
    let few : j - i ≤ length (drop i xs) = omega (arith, up, within, length-drop i xs) in
    ap (take (j - i)) (drop-append-le i xs ys low) ∙ take-append-le (j - i) (drop i xs) ys few

-- and what is added is a part
range-added : (xs ys : List Token) (i j : ℕ) → i ≡ length xs → j ≡ length xs + length ys → slice_range (xs ++ ys) i j ≡ ys
range-added xs ys i j start end =
    let all : length ys ≤ j - i = omega (arith, start, end) in
    ap (λ n. take (j - i) (drop n (xs ++ ys))) start ∙ ap (take (j - i)) (drop-append_seam xs ys) ∙ take_all (j - i) ys all

pub types_of_each-add : (tokens stack : List Token) (parts : List Part) (p : Part) → All (IsWithin (length tokens)) parts → p.start ≡ length tokens → p.end ≡ length tokens + length stack
    → types_of_each (tokens ++ stack) (parts ++ p ∷ []) ≡ types_of_each tokens parts ++ reverse stack ∷ []
types_of_each-add tokens stack [] p within start end =
    ap (λ xs. reverse xs ∷ []) (range-added tokens stack p.start p.end start end)
types_of_each-add tokens stack (x ∷ parts) p within start end =
    let first = within 0 p (omega arith) in
    let one : types_of (tokens ++ stack) x ≡ types_of tokens x = ap reverse (range-within tokens stack x.start x.end first.start first.end) in
    let others = types_of_each-add tokens stack parts p (λ k d h. within (suc k) d (omega arith)) start end in
    ap (λ y. y ∷ types_of_each (tokens ++ stack) (parts ++ p ∷ [])) one ∙ ap (λ ys. types_of tokens x ∷ ys) others
