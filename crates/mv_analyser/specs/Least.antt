-- When what is stated is the least that holds.
--   stated_locals, stated_edges                the two flows that are stated
--   HasLocalsBelow, HasEdgesBelow low high     one flow of them is below the other's
--   HasLeastLocals, HasLeastEdges m f stated   below all that fit the function at f and hold
--   AreLeastLocals, IsLeastCertificate m c     the same for each function: for the availabilities, and for both
--   IsPrincipal m c                            the certificate fits the module, holds, and is the least one that does
--   IsSameStated a b                           both state the same availabilities, and each one's edges are below the other's
--   LeastIsOne                                 two least certificates of a module state the same in this sense
use Rattle.std.specs.Prelude.{◌≡◌, ℕ, List, Option, Some, slice_get, IsTrue}
use Rattle.mv_move_types.specs.declared.borrow.Availability.{Availability}
use Rattle.mv_move_types.specs.Module.{Module}
use Rattle.mv_lattice.specs.Flow.{IsFlowBelow, states_of}
use Rattle.mv_certificate_rules.specs.LocalsRules.{locals_leq}
use Rattle.mv_edges.specs.Edges.{Edge, edges_leq}
use Rattle.mv_certificate_rules.specs.Certificate.{Known, Stated, Certificate, certificate_holds}
use Rattle.mv_certificate.specs.Functions.{LocalsHoldAt, EdgesHoldAt}
use Rattle.mv_certificate.specs.Reads.{FitsAt}
use Rattle.mv_certificate_rules.specs.Shape.{AllStatedFit}

-- the stated availabilities, block by block, and the stated edges
abbrev pub stated_locals : Stated → List (Option (List Availability))
stated_locals stated = states_of (λ (k : Known). k.locals) stated

abbrev pub stated_edges : Stated → List (Option (List Edge))
stated_edges stated = states_of (λ (k : Known). k.edges) stated

-- at each block the one's availabilities are below the other's, or its edges are
abbrev pub HasLocalsBelow : Stated → Stated → Type 0
HasLocalsBelow low high = IsFlowBelow (λ a b. IsTrue (locals_leq a b)) (stated_locals low) (stated_locals high)

abbrev pub HasEdgesBelow : Stated → Stated → Type 0
HasEdgesBelow low high = IsFlowBelow (λ a b. IsTrue (edges_leq a b)) (stated_edges low) (stated_edges high)

-- the availabilities are below all that fit the function at a place and hold, and so are the edges
abbrev pub HasLeastLocals : Module → ℕ → Stated → Type 0
HasLeastLocals m f stated = (other : Stated) → FitsAt m f other → LocalsHoldAt m f other → HasLocalsBelow stated other

abbrev pub HasLeastEdges : Module → ℕ → Stated → Type 0
HasLeastEdges m f stated = (other : Stated) → FitsAt m f other → EdgesHoldAt m f other → HasEdgesBelow stated other

-- so of each function of a module
abbrev pub AreLeastLocals : Module → Certificate → Type 0
AreLeastLocals m c = (f : ℕ) (stated : Stated) → slice_get c f ≡ Some stated → HasLeastLocals m f stated

abbrev pub IsLeastCertificate : Module → Certificate → Type 0
IsLeastCertificate m c = (f : ℕ) (stated : Stated) → slice_get c f ≡ Some stated → HasLeastLocals m f stated × HasLeastEdges m f stated

-- the certificate fits the module, holds of it, and is the least one that does
pub record IsPrincipal (m : Module) (c : Certificate) : Type 0 where
  pub shape : AllStatedFit m m.functions c
  pub holds : IsTrue (certificate_holds m c)
  pub least : IsLeastCertificate m c

-- both state the same availabilities, and each one's edges are below the other's
pub record IsSameStated (a b : Stated) : Type 0 where
  pub locals : stated_locals a ≡ stated_locals b
  pub below : HasEdgesBelow a b
  pub above : HasEdgesBelow b a

-- two least certificates of a module state the same of each function
abbrev pub LeastIsOne : Type 0
LeastIsOne = (m : Module) (c other : Certificate) → IsPrincipal m c → IsPrincipal m other
    → (f : ℕ) (a b : Stated) → slice_get c f ≡ Some a → slice_get other f ≡ Some b → IsSameStated a b
