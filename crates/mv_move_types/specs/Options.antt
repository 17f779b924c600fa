-- Words on options and lists that the definitions share.
use Rattle.std.specs.Prelude.{Option, Some, None, ℕ, suc, Bool, List, [], ◌∷◌, option_map, cond}

infixl 10 ◌>>=◌
-- goes on with the value, if there is one
abbrev pub ◌>>=◌ : {A B : Type 0} → Option A → (A → Option B) → Option B
(Some x) >>= f = f x
None >>= f = None

-- the place of the first that passes the test
abbrev pub find_index : {A : Type 0} → (A → Bool) → List A → Option ℕ
find_index test [] = None
find_index test (x ∷ xs) = cond (test x) (Some 0) (option_map suc (find_index test xs))
