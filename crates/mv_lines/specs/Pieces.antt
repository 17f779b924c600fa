-- Pieces of lines.
--   TakesPiece ends piece old new   a piece was taken off the front of the first of these lines
--   TakesNext piece old new         the next piece of these lines was taken, if there is one
--   piece_text ends piece           what is written for it
use Rattle.std.specs.Prelude.{◌≡◌, ℕ, ◌<◌, Bool, true, false, List, [], ◌∷◌, ◌++◌, length, Option, MatchOption}
use Rattle.mv_lines.specs.declared.pieces.Piece.{Piece}

-- A piece was taken off the front of the first of these lines. The line ends with it, or goes on; then the piece has bytes.
abbrev pub TakesPiece : Bool → List ℕ → List (List ℕ) → List (List ℕ) → Type 0
TakesPiece true piece old new = old ≡ piece ∷ new
TakesPiece false piece old new =
    (rest : List ℕ) × (lines : List (List ℕ)) × (0 < length piece) × (old ≡ (piece ++ rest) ∷ lines) × (new ≡ rest ∷ lines)

-- the bytes of a piece, with the line's end behind the last one
abbrev pub piece_text : Bool → List ℕ → List ℕ
piece_text true piece = piece ++ 10 ∷ []
piece_text false piece = piece

-- The next piece of these lines was taken; or there is none, and no line is left.
abbrev pub TakesNext : Option Piece → List (List ℕ) → List (List ℕ) → Type 0
TakesNext piece old new = MatchOption piece ((old ≡ []) × (new ≡ [])) (λ p. TakesPiece p.is_last p.text.items old new)
