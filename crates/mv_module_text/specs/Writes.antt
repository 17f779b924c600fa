-- What a writer promises.
use Rattle.std.specs.Prelude.{◌≡◌, ℕ, List, ◌++◌, Result, Ok, Err}

-- the text stands after what was there before; where an allocation failed, nothing has changed
abbrev pub Writes : {A E : Type 0} → List ℕ → List ℕ → Result A E → List ℕ → Type 0
Writes text old (Ok done) new = new ≡ old ++ text
Writes text old (Err e) new = new ≡ old
