-- The last element of a list.
use Rattle.std.proofs.Common.{[], ◌++◌, ◌∷◌, ◌≡◌, List}

-- lists with equal last elements
pub last-same : {X : Type 0} (xs ys : List X) (x y : X) → xs ++ x ∷ [] ≡ ys ++ y ∷ [] → x ≡ y
last-same [] [] x y e = cc
last-same [] (b ∷ []) x y e = absurd (let no : ⊥ = cc in no)
last-same [] (b ∷ c ∷ ys) x y e = absurd (let no : ⊥ = cc in no)
last-same (a ∷ []) [] x y e = absurd (let no : ⊥ = cc in no)
last-same (a ∷ c ∷ xs) [] x y e = absurd (let no : ⊥ = cc in no)
last-same (a ∷ xs) (b ∷ ys) x y e = last-same xs ys x y (let t : xs ++ x ∷ [] ≡ ys ++ y ∷ [] = cc in t)

-- a list with a last element isn't empty
pub last-some : {X : Type 0} (xs : List X) (x : X) → xs ++ x ∷ [] ≡ [] → ⊥
last-some [] x e = cc
last-some (y ∷ ys) x e = cc
