-- What a search over one function gives, and what is stated by two of them.
--   without_edges, locals_alone            availabilities with no edges, of a block and of all blocks
--   known_with, with_edges                 the same with these edges
--   error_of phase e                       what the error of a search says in a phase
--   IsErrorAt m f phase Passes Complex e   nothing passes at f, or that function is too complex, or memory ran out
--   IsSimpleAt, IsComplexAt m f            no local of the function at f is a reference; or one is, and the search meets a limit
--   EndsLocals, EndsEdges m f e            the search for availabilities, or for edges, ends with this error
use Rattle.std.specs.Prelude.{◌≡◌, ℕ, List, [], ◌∷◌, map, option_map, Option, Some, None, slice_get}
use Rattle.mv_move_types.specs.declared.borrow.Availability.{Availability}
use Rattle.mv_move_types.specs.Module.{Module, FunctionDefinition}
use Rattle.mv_edges.specs.Edges.{Edge}
use Rattle.mv_lattice.specs.declared.search.SolveError.{SolveError}
use Rattle.mv_lattice.specs.declared.search.SolveError.TheVariants.{Need as NeedFails, TooComplex as SearchTooComplex, Memory as MemoryOut}
use Rattle.mv_certificate_rules.specs.Certificate.{Known, Stated}
use Rattle.mv_certificate.specs.Reads.{FitsAt}
use Rattle.mv_analyser.specs.Principal.{HasPlainLocals, FailsLocals, FailsEdges, MeetsLimitAt, IsUnprovedBy}
use Rattle.mv_analyser.specs.declared.ProveError.{ProveError}
use Rattle.mv_analyser.specs.declared.ProveError.TheVariants.{Refused, TooComplex, Memory}

-- these availabilities, and no edges
abbrev pub without_edges : List Availability → Known
without_edges locals = record { locals = locals; edges = [] }

-- so for each block
abbrev pub locals_alone : List (Option (List Availability)) → Stated
locals_alone all = map (option_map without_edges) all

-- what is known, with these edges
abbrev pub known_with : Option Known → Option (List Edge) → Option Known
known_with (Some known) (Some edges) = Some (record { locals = known.locals; edges = edges })
known_with (Some known) None = None
known_with None edges = None

-- so for each block
abbrev pub with_edges : Stated → List (Option (List Edge)) → Stated
with_edges [] edges = []
with_edges (known ∷ stated) [] = []
with_edges (known ∷ stated) (first ∷ edges) = known_with known first ∷ with_edges stated edges

-- what the error of a search says in a phase
abbrev pub error_of : ℕ → SolveError → ProveError
error_of phase NeedFails = Refused phase
error_of phase SearchTooComplex = TooComplex
error_of phase MemoryOut = Memory

-- nothing that fits the function at a place passes; or that function is too complex; or memory ran out
abbrev pub IsErrorAt : Module → ℕ → ℕ → (Stated → Type 0) → Type 0 → ProveError → Type 0
IsErrorAt m f phase Passes Complex = IsUnprovedBy (λ p. (p ≡ phase) × ((stated : Stated) → FitsAt m f stated → Passes stated → ⊥)) Complex

-- no local of the function at a place is a reference
abbrev pub IsSimpleAt : Module → ℕ → Type 0
IsSimpleAt m f = (d : FunctionDefinition) → slice_get m.functions f ≡ Some d → HasPlainLocals m d

-- some local of that function is a reference, and the search for its edges meets a limit
abbrev pub IsComplexAt : Module → ℕ → Type 0
IsComplexAt m f = (IsSimpleAt m f → ⊥) × MeetsLimitAt m f

-- the function's search for availabilities has this error in phase 10, or its search for edges in phase 11; or memory ran out
abbrev pub EndsLocals : Module → ℕ → ProveError → Type 0
EndsLocals m f = IsUnprovedBy (λ p. (p ≡ 10) × FailsLocals m f) ⊥

abbrev pub EndsEdges : Module → ℕ → ProveError → Type 0
EndsEdges m f = IsUnprovedBy (λ p. (p ≡ 11) × FailsEdges m f) (MeetsLimitAt m f)
