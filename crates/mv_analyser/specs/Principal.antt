-- Why no certificate of a module is made.
-- First what a search over one function comes to, then the same for the function at a place, then what follows for a module.
--   HasPlainLocals m d, IsWithoutReferences m   no local of a function, or of any function, is a reference
--   HoldsAt P m f                               P holds of the function at f and of its flow graph
--   HasEdges, LacksEdges, HasManyEdges          the search for edges ends with a flow, with a need that fails, or at a limit
--   HasLocals, LacksLocals                      the search for availabilities ends with a flow, or with a need that fails
--   FindsEdges, .., FailsLocals m f             the same of the function at f
--   FailsEach m phase                           no certificate passes phase 10, or 11; or some one passes, and 12 fails
--   IsTooComplex m                              a search for edges meets a limit
--   IsUnprovedBy fails complex e                a phase of which this holds, or a search that is too complex and that, or memory ran out
--   IsUnproved, IsUnprovedWithin m e            why no certificate is made, at all or within a number of steps
--   IsOfLimits, IsOfLimitsWithin e              the search met a limit, or memory ran out
--   IsTold limited why e                        what is said of a search's error where its steps are limited, or aren't
--   IsProvable m                                some certificate passes phases 10 to 12
--   PassesCheck m c                             nothing but want of memory refuses the certificate
-- AllBefore is a part of these.
use Rattle.std.specs.Prelude.{◌≡◌, ⊤, ℕ, ◌<◌, Bool, false, List, [], length, Option, Some, slice_get, IsTrue}
use Rattle.mv_move_types.specs.declared.borrow.Availability.{Availability}
use Rattle.mv_move_types.specs.declared.refusal.Refusal.{Refusal}
use Rattle.mv_move_types.specs.declared.refusal.Refusal.TheVariants.{Memory as OutOfMemory}
use Rattle.mv_move_types.specs.declared.token.Token.{Token}
use Rattle.mv_move_types.specs.Module.{Module, FunctionDefinition, local_type}
use Rattle.mv_move_types.specs.Refusals.{IsRefusedBy}
use Rattle.mv_acquires.specs.Acquires.{AcquiresHold}
use Rattle.mv_cfg.specs.declared.Cfg.{Cfg}
use Rattle.mv_cfg.specs.FlowGraph.{IsFlowGraph}
use Rattle.mv_lattice.specs.Search.{EndsWith, MeetsNeed, MeetsLimit}
use Rattle.mv_certificate_rules.specs.LocalsRules.{start_locals}
use Rattle.mv_locals_safety.specs.Domain.{locals_order}
use Rattle.mv_edges.specs.Edges.{Edge}
use Rattle.mv_certificate_rules.specs.BorrowRules.{is_reference_token}
use Rattle.mv_borrow_graph.specs.Domain.{edges_order}
use Rattle.mv_certificate.specs.Answers.{FailsCertificate}
use Rattle.mv_certificate_rules.specs.Certificate.{Certificate, all_locals_hold, all_edges_hold}
use Rattle.mv_certificate_rules.specs.Shape.{AllStatedFit}
use Rattle.mv_certificate_rules.specs.Verified.{HasCertificate}
use Rattle.mv_analyser.specs.declared.ProveError.{ProveError}
use Rattle.mv_analyser.specs.declared.ProveError.TheVariants.{Refused, TooComplex, Memory}
use Rattle.mv_analyser.specs.declared.LimitError.{LimitError}
use Rattle.mv_analyser.specs.declared.LimitError.TheVariants.{Unproved, TooLong}

-- no local of a function, parameters included, is a reference
abbrev pub HasPlainLocals : Module → FunctionDefinition → Type 0
HasPlainLocals m d = (l : ℕ) (t : Token) → local_type m d l ≡ Some t → is_reference_token t ≡ false

-- none of any function is
abbrev pub IsWithoutReferences : Module → Type 0
IsWithoutReferences m = (f : ℕ) (d : FunctionDefinition) → slice_get m.functions f ≡ Some d → HasPlainLocals m d

-- of the function at a place, and of the flow graph of its code, P holds
pub record HoldsAt (P : FunctionDefinition → Cfg → Type 0) (m : Module) (f : ℕ) : Type 0 where
  pub function : FunctionDefinition
  pub at : slice_get m.functions f ≡ Some function
  pub graph : Cfg
  pub is_graph : IsFlowGraph function.code graph
  pub holds : P function graph

-- The search for a function's edges, which begins with none. It ends with a flow; or it comes to a need that fails; or it meets a limit: a block would be
-- visited a 257th time, or a state that it would state for a block has more than 1,024 edges or a label of more than 8 positions.
module _ (m : Module) where
  abbrev pub HasEdges : FunctionDefinition → Cfg → Type 0
  HasEdges d g = (flow : List (Option (List Edge))) × EndsWith (edges_order m d) g [] flow

  abbrev pub LacksEdges : FunctionDefinition → Cfg → Type 0
  LacksEdges d g = MeetsNeed (edges_order m d) g []

  abbrev pub HasManyEdges : FunctionDefinition → Cfg → Type 0
  HasManyEdges d g = MeetsLimit (edges_order m d) g []

  -- The search for a function's availabilities, which begins with those that are known at its start. It ends with a flow, or it comes to a need that fails.
  abbrev pub HasLocals : FunctionDefinition → Cfg → Type 0
  HasLocals d g = (start : List Availability) × ((start_locals m d ≡ Some start)
      × ((flow : List (Option (List Availability))) × EndsWith (locals_order m d) g start flow))

  abbrev pub LacksLocals : FunctionDefinition → Cfg → Type 0
  LacksLocals d g = (start : List Availability) × ((start_locals m d ≡ Some start)
      × MeetsNeed (locals_order m d) g start)

-- so of the function at a place
abbrev pub FindsEdges : Module → ℕ → Type 0
FindsEdges m f = HoldsAt (HasEdges m) m f

abbrev pub FailsEdges : Module → ℕ → Type 0
FailsEdges m f = HoldsAt (LacksEdges m) m f

abbrev pub MeetsLimitAt : Module → ℕ → Type 0
MeetsLimitAt m f = HoldsAt (HasManyEdges m) m f

abbrev pub FindsLocals : Module → ℕ → Type 0
FindsLocals m f = HoldsAt (HasLocals m) m f

abbrev pub FailsLocals : Module → ℕ → Type 0
FailsLocals m f = HoldsAt (LacksLocals m) m f

-- each function before that at a place has P
abbrev pub AllBefore : (ℕ → Type 0) → ℕ → Type 0
AllBefore P f = (k : ℕ) → k < f → P k

-- The phase is 10, and no certificate's availabilities hold: of the functions in order the search of the first whose search for them doesn't end with a flow
-- comes to a need that fails. Or it is 11, and some certificate's availabilities do, but none's edges: so for the searches for edges. Or it is 12, and some
-- certificate holds, but an acquires list is wrong.
pub data FailsEach (m : Module) : ℕ → Type 0 where
  no_locals : (f : ℕ) → FailsLocals m f → AllBefore (FindsLocals m) f
      → ((c : Certificate) → AllStatedFit m m.functions c → IsTrue (all_locals_hold m c) → ⊥) → FailsEach m 10
  no_edges : (f : ℕ) → FailsEdges m f → AllBefore (FindsEdges m) f → (c : Certificate) → AllStatedFit m m.functions c → IsTrue (all_locals_hold m c)
      → ((c : Certificate) → AllStatedFit m m.functions c → IsTrue (all_edges_hold m c) → ⊥) → FailsEach m 11
  no_lists : HasCertificate m → (AcquiresHold m → ⊥) → FailsEach m 12

-- each search for availabilities ends with a flow, and of the functions in order the search of the first whose search for edges doesn't meets a limit
pub record IsTooComplex (m : Module) : Type 0 where
  pub locals : AllBefore (FindsLocals m) (length m.functions)
  pub function : ℕ
  pub before : AllBefore (FindsEdges m) function
  pub limit : MeetsLimitAt m function

-- the first holds of the phase that refuses; or a search is too complex, and the second holds; or memory ran out
abbrev pub IsUnprovedBy : (ℕ → Type 0) → Type 0 → ProveError → Type 0
IsUnprovedBy fails complex (Refused phase) = fails phase
IsUnprovedBy fails complex TooComplex = complex
IsUnprovedBy fails complex Memory = ⊤

-- no certificate passes the phase that refuses; or the module has a local that is a reference, and a search meets a limit; or memory ran out
abbrev pub IsUnproved : Module → ProveError → Type 0
IsUnproved m = IsUnprovedBy (FailsEach m) ((IsWithoutReferences m → ⊥) × IsTooComplex m)

-- the search reached its limits, or memory ran out
abbrev pub IsOfLimits : ProveError → Type 0
IsOfLimits = IsUnprovedBy (λ phase. ⊥) ⊤

-- the same within a number of steps, which may also be used up
abbrev pub IsUnprovedWithin : Module → LimitError → Type 0
IsUnprovedWithin m (Unproved e) = IsUnproved m e
IsUnprovedWithin m TooLong = ⊤

abbrev pub IsOfLimitsWithin : LimitError → Type 0
IsOfLimitsWithin (Unproved e) = IsOfLimits e
IsOfLimitsWithin TooLong = ⊤

-- A search whose steps are limited may have used them up where it says that memory ran out. Any other error is told as it is.
abbrev pub IsTold : Bool → ProveError → LimitError → Type 0
IsTold limited why (Unproved e) = e ≡ why
IsTold limited why TooLong = (why ≡ Memory) × IsTrue limited

-- where some certificate of the module passes phases 10 to 12
abbrev pub IsProvable : Module → Type 0
IsProvable m = HasCertificate m × AcquiresHold m

-- nothing but want of memory refuses the certificate
abbrev pub PassesCheck : Module → Certificate → Type 0
PassesCheck m c = (e : Refusal) → IsRefusedBy (FailsCertificate m c) e → e ≡ OutOfMemory
