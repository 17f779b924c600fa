-- What the commands of an author print.
use Rattle.std.specs.Prelude.{ℕ, List, [], ◌∷◌, ◌++◌, Option, Some, None, Result, Ok, Err, codes, decimal}
use Rattle.mv_move_types.specs.declared.refusal.Refusal.{Refusal}
use Rattle.mv_move_types.specs.declared.refusal.Refusal.TheVariants.{Phase, Memory as OutOfMemory}
use Rattle.mv_analyser.specs.declared.LimitError.{LimitError}
use Rattle.mv_analyser.specs.declared.LimitError.TheVariants.{Unproved, TooLong}
use Rattle.mv_analyser.specs.declared.ProveError.TheVariants.{Refused, TooComplex, Memory}

-- a text with its line end
abbrev pub line : List ℕ → List ℕ
line text = text ++ 10 ∷ []

-- the phase that refuses
abbrev pub refused_text : ℕ → List ℕ
refused_text phase = codes "refused " ++ decimal phase

-- the number of the reason for which a saved ledger isn't loaded
abbrev pub load_refused_text : ℕ → List ℕ
load_refused_text number = codes "load refused " ++ decimal number

-- what is printed where no certificate is made; nothing where an allocation failed
abbrev pub no_proof_line : LimitError → Option (List ℕ)
no_proof_line (Unproved (Refused phase)) = Some (line (refused_text phase))
no_proof_line (Unproved TooComplex) = Some (line (codes "too complex"))
no_proof_line (Unproved Memory) = None
no_proof_line TooLong = Some (line (codes "too long"))

-- what is printed of a module and its certificate; nothing where an allocation failed
abbrev pub checked_line : Result (Unit {0}) Refusal → Option (List ℕ)
checked_line (Ok done) = Some (line (codes "accepted"))
checked_line (Err (Phase phase)) = Some (line (refused_text phase))
checked_line (Err OutOfMemory) = None
