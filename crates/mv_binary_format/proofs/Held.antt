-- The one element of a vector has the tables of the module.
use Rattle.std.proofs.Common.{◌≡◌, List, [], ◌∷◌, ap, get_or, length}
use Rattle.mv_binary_format.specs.declared.module.Parts.{Parts}
use Rattle.mv_binary_format.specs.Held.{tables_of_parts, tables_held}

pub first_held : (ps : List Parts) (p : Parts) → length ps ≡ 1 → p ≡ get_or ps 0 p → tables_of_parts p ≡ tables_held ps
first_held [] p one e = absurd cc
first_held (q ∷ ps) p one e = ap tables_of_parts e
