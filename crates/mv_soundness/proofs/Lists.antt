-- Lists and options: an element at a place, a list the other way round, and places up to the last one.
use Rattle.std.specs.Prelude.{option_and_then}
use Rattle.std.proofs.{lemmas.Bool.cases_lt, lemmas.List.reverse-append, lemmas.List.map-append}
pub use Rattle.mv_bound_rules.proofs.Found.{at-all as All-at}
use Rattle.std.proofs.Common.{◌≡◌, ℕ, ◌<◌, ◌≤◌, ◌⊎◌, inl, inr, List, [], ◌∷◌, ◌++◌, map, reverse, refl, sym, ap, ◌∙◌, arith, Option, Some, None}

-- what is within an option within another
pub flat-some : {A : Type 0} (o : Option (Option A)) (x : A) → option_and_then (λ (y : Option A). y) o ≡ Some x → o ≡ Some (Some x)
flat-some None x e = absurd cc
flat-some (Some o) x e = ap Some e

pub map-turned : {A B : Type 0} (f : A → B) (xs : List A) → map f (reverse xs) ≡ reverse (map f xs)
map-turned f [] = refl
map-turned f (x ∷ xs) =
    ap (map f) (reverse-append (x ∷ []) xs) ∙ map-append f (reverse xs) (x ∷ []) ∙ ap (λ ys. ys ++ f x ∷ []) (map-turned f xs) ∙ sym (reverse-append (f x ∷ []) (map f xs))

-- a place is below the last one, or is the last one
pub below-or-at : (a b : ℕ) → a ≤ b → (a < b) ⊎ (a ≡ b)
below-or-at a b h = elim (cases_lt a b) [ inl l ↦ inl l | inr g ↦ inr (omega arith) ]
