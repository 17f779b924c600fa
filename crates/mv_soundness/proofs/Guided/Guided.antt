-- What the certificates say of each state of a run: it holds in every frame.
use Rattle.std.specs.Prelude.{◌≡◌, ℕ, ◌<◌, List, [], ◌∷◌, map, Some, slice_get, ⊤}
use Rattle.mv_move_types.specs.declared.token.Token.{Token}
use Rattle.mv_move_types.specs.declared.tables.FunctionHandle.{FunctionHandle}
use Rattle.mv_move_types.specs.declared.instruction.Instruction.TheVariants.{Call}
use Rattle.mv_soundness.proofs.Borrows.Hypotheses.{Fits, token_kind}
use Rattle.mv_move_types.specs.Module.{Module, FunctionDefinition}
use Rattle.mv_machine.specs.State.{State, frames}
use Rattle.mv_certificate_rules.specs.Certificate.{Known, Certificate, Stated}
use Rattle.mv_certificate.specs.Known.{known_before}
use Rattle.mv_borrow_graph.proofs.Abstract.Terms.Covers.{Covers as TheCovers}
use Rattle.mv_soundness.proofs.Borrows.Stood.{Stood, seen_of, point_of, layer_at, StoodOn, Descending, LinkedTo}
use Rattle.mv_soundness.proofs.Borrows.Locals.{AsKnown}

-- a frame stands in its function, and what its certificate says of the instruction is what is known of it; its locals are as known
pub record Placed (modules : List Module) (certificates : List Certificate) (x : Stood) : Type 0 where
  pub certificate : Certificate
  pub stated : Stated
  pub known : Known
  pub is_home : slice_get modules x.frame.function.place ≡ Some x.home
  pub is_function : slice_get x.home.functions x.frame.function.index ≡ Some x.function
  pub is_certificate : slice_get certificates x.frame.function.place ≡ Some certificate
  pub is_stated : slice_get certificate x.frame.function.index ≡ Some stated
  pub is_known : known_before x.home x.function stated x.frame.at ≡ Some (known, x.types)
  pub are_edges : known.edges ≡ x.edges
  pub are_locals : AsKnown known.locals x.frame.locals

-- each frame does
abbrev pub AllPlaced : List Module → List Certificate → List Stood → Type 0
AllPlaced modules certificates [] = ⊤
AllPlaced modules certificates (x ∷ xs) = Placed modules certificates x × AllPlaced modules certificates xs

-- each frame's edges cover its references, those included that it lent to the frame above
abbrev pub AllCovered : List Stood → Type 0
AllCovered [] = ⊤
AllCovered (x ∷ xs) = TheCovers (layer_at x).frame (layer_at x).edges × AllCovered xs

-- each waiting frame's references are as its types say
abbrev pub StoodFit : List Stood → Type 0
StoodFit [] = ⊤
StoodFit (x ∷ xs) = Fits (point_of x) (seen_of x) × StoodFit xs

-- what a waiting frame's Call says of the results, and what the function says that it called: which are references, and which mutable ones
abbrev pub ResultsAgree : Stood → Module → FunctionDefinition → Type 0
ResultsAgree w home function =
    (i : ℕ) (handle : FunctionHandle) (results : List Token) → slice_get w.function.code w.frame.at ≡ Some (Call i) →
    slice_get w.home.function_handles i ≡ Some handle → slice_get w.home.signatures handle.results ≡ Some results →
    (own : FunctionHandle) (own_results : List Token) → slice_get home.function_handles function.handle ≡ Some own →
    slice_get home.signatures own.results ≡ Some own_results → map token_kind results ≡ map token_kind own_results

-- each frame, of this function, and the one below it
abbrev pub AllAgree : Module → FunctionDefinition → List Stood → Type 0
AllAgree home function [] = ⊤
AllAgree home function (w ∷ ws) = ResultsAgree w home function × AllAgree w.home w.function ws

-- the first frame was entered with no reference
abbrev pub FirstAlone : List Stood → Type 0
FirstAlone [] = ⊤
FirstAlone (x ∷ []) = (layer_at x).frame.entry ≡ []
FirstAlone (x ∷ y ∷ ys) = FirstAlone (y ∷ ys)

-- the state is as the certificates say
pub record Guided (depends : ℕ → ℕ → Type 0) (modules : List Module) (certificates : List Certificate) (s : State) : Type 0 where
  pub top : Stood
  pub waiting : List Stood
  pub stood : StoodOn [] (frames s) (top ∷ waiting)
  pub placed : AllPlaced modules certificates (top ∷ waiting)
  pub covered : AllCovered (top ∷ waiting)
  pub first : FirstAlone (top ∷ waiting)
  pub links : LinkedTo depends top waiting
  pub fit : StoodFit waiting
  pub agree : AllAgree top.home top.function waiting
  pub ordered : Descending (frames s)
  pub next : s.top.number < s.entered
