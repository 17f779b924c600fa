-- Words on results: each part of a rule fails with a reason, or gives a value to the next part.
use Rattle.std.specs.Prelude.{Result, Ok, Err, Bool, true, false, List, [], ◌∷◌}

infixl 10 ◌>>=◌
-- goes on with the value, unless this part failed
abbrev pub ◌>>=◌ : {A B E : Type 0} → Result A E → (A → Result B E) → Result B E
(Ok x) >>= f = f x
(Err e) >>= f = Err e

infixl 10 ◌>>◌
-- goes on, unless this part failed
abbrev pub ◌>>◌ : {B E : Type 0} → Result (Unit {0}) E → Result B E → Result B E
(Ok done) >> rest = rest
(Err e) >> rest = Err e

-- fails for this reason unless the test passed
abbrev pub need : {E : Type 0} → Bool → E → Result (Unit {0}) E
need true e = Ok tt
need false e = Err e

-- each element's result in order, or the first failure
abbrev pub for_each : {A B E : Type 0} → (A → Result B E) → List A → Result (List B) E
for_each f [] = Ok []
for_each f (x ∷ xs) = do
  y ← f x
  ys ← for_each f xs
  Ok (y ∷ ys)
