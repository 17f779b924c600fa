-- Pieces of a list of words.
use Rattle.std.specs.Prelude.{ℕ, ◌+◌, cond, nat_le, List, ◌++◌, length, take, drop, Option, Some, None}

-- so many words from a place on, if they are there
abbrev pub piece : ℕ → ℕ → List ℕ → Option (List ℕ)
piece from width words = cond (nat_le (from + width) (length words)) (Some (take width (drop from words))) None

-- these words in place of as many, if they are there
abbrev pub spliced : ℕ → List ℕ → List ℕ → Option (List ℕ)
spliced from new words = cond (nat_le (from + length new) (length words)) (Some (take from words ++ new ++ drop (from + length new) words)) None

-- these words over those from a place on, as far as there are so many
abbrev pub laid_over : ℕ → List ℕ → List ℕ → List ℕ
laid_over from new old =
    let all : List ℕ = take from old ++ (new ++ drop (length new) (drop from old)) in
    take (length old) (all ++ drop (length all) old)
