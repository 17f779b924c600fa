-- How many modules there are once some took their places.
use Rattle.std.specs.Prelude.{ℕ, ◌+◌, ◌==◌, cond, List, [], ◌∷◌}

-- those before are so many, and each of these places is one of them or the next one
abbrev pub count_after : List ℕ → ℕ → ℕ
count_after [] count = count
count_after (p ∷ places) count = count_after places (cond (p == count) (count + 1) count)
