-- What a terminal shows of a run that takes long.
use Rattle.std.specs.Prelude.{ℕ, List, ◌∷◌, ◌++◌, codes, decimal}

-- how far a run is, from the beginning of the terminal's line
abbrev pub meter_text : ℕ → ℕ → ℕ → List ℕ
meter_text bytes total records =
    13 ∷ decimal bytes ++ codes " of " ++ decimal total ++ codes " bytes, " ++ decimal records ++ codes " records"
