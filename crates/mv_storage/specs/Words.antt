-- What a value's words are.
use Rattle.std.specs.Prelude.{ℕ, List, [], ◌∷◌}
use Rattle.mv_storage.specs.declared.value.Words.{Words}
use Rattle.mv_storage.specs.declared.value.Words.TheVariants.{One, Many}

-- the words in order
abbrev pub words_of : Words → List ℕ
words_of (One n) = n ∷ []
words_of (Many words) = words.items
