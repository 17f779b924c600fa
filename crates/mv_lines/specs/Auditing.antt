-- How the lines of an audit are made, and which of them are left.
use Rattle.std.specs.Prelude.{ℕ, ◌+◌, ◌-◌, List, [], ◌∷◌, ◌++◌, map, length, codes}
use Rattle.mv_machine.specs.Lines.{Tallied, end_line, json_line, count_line, count_object}
use Rattle.mv_lines.specs.declared.audit.Counted.{Counted}

-- a struct with its counts
abbrev pub counted_in : Counted → Tallied
counted_in c = record { struct = c.name; packs = c.packs; unpacks = c.unpacks }

-- as many values are stored as were made and not taken apart
abbrev pub stored_of : Tallied → ℕ
stored_of t = t.packs - t.unpacks

-- the lines of an audit of these counts, after so many others
abbrev pub audit_from : List Tallied → ℕ → List (List ℕ)
audit_from counts n = map (λ t. count_line (stored_of t) t) counts ++ end_line (n + length counts) ∷ []

-- an audit of these counts in one line
abbrev pub counts_json : List Tallied → List ℕ
counts_json counts = json_line (codes "audit") (map (λ t. count_object (stored_of t) t) counts)
