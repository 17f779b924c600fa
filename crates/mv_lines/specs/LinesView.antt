-- What is known of the lines of a show or of an audit.
--   LinesView     the lines that are left, and their format
--   ended lines   lines, each with a line end
use Rattle.std.specs.Prelude.{ℕ, List, [], ◌∷◌, ◌++◌, flat_map}
use Rattle.mv_machine.specs.Ledger.{Format}

-- the lines that are left, and the format in which they are told
pub record LinesView : Type 0 where
  pub format : Format
  pub left : List (List ℕ)

-- lines one after the other, each with a line end
abbrev pub ended : List (List ℕ) → List ℕ
ended = flat_map (λ line. line ++ 10 ∷ [])
