-- What is found in a table of rows.
use Rattle.std.proofs.Common.{◌≡◌, Bool, true, false, cond, List, [], ◌∷◌, map, refl, subst, Option, Some, None, option_map}
use Rattle.std.specs.Prelude.{find}
use Rattle.std.proofs.lemmas.Option.{none-some, same_Some}

-- each row is so
abbrev pub Each : {X : Type 0} → (X → Type 0) → List X → Type 0
Each P [] = Unit {0}
Each P (x ∷ xs) = P x × Each P xs

-- two functions agree in each row where all that they give is the same
pub each_same : {X Y : Type 0} (f g : X → Y) (xs : List X) → map f xs ≡ map g xs → Each (λ x. f x ≡ g x) xs
each_same f g [] e = tt
each_same f g (x ∷ xs) e = (cc, each_same f g xs cc)

-- what is found is so, and passes the test
pub find-some : {X : Type 0} (P : X → Type 0) (p : X → Bool) (xs : List X) (x : X) → Each P xs → find p xs ≡ Some x → P x × (p x ≡ true)
find-some P p [] x all e = absurd (none-some x e)
find-some P p (y ∷ ys) x all e = by_test (find-some P p ys x all.1) (p y) refl e
  where
    by_test : (find p ys ≡ Some x → P x × (p x ≡ true)) → (b : Bool) → p y ≡ b → cond b (Some y) (find p ys) ≡ Some x → P x × (p x ≡ true)
    by_test later true same e = subst (λ z. P z × (p z ≡ true)) (same_Some y x e) (all.0, same)
    by_test later false same e = later e

-- what follows from something that was mapped
pub on_map : {A B P : Type 0} (o : Option A) (f : A → B) (y : B) → option_map f o ≡ Some y → ((x : A) → o ≡ Some x → f x ≡ y → P) → P
on_map None f y e k = absurd (none-some y e)
on_map (Some x) f y e k = k x refl (same_Some (f x) y e)
