-- A state with what the certificates say of each of its frames.
use Rattle.std.specs.Prelude.{◌≡◌, ℕ, ◌<◌, List, [], ◌∷◌, Option, Some, ⊤}
use Rattle.mv_move_types.specs.Module.{Module, FunctionDefinition}
use Rattle.mv_machine.specs.Value.{Reference}
use Rattle.mv_machine.specs.State.{Frame, State, frames}
use Rattle.mv_edges.specs.Edges.{Edge}
use Rattle.mv_type_rules.specs.TypesHold.{Point}
use Rattle.mv_certificate_rules.specs.BorrowRules.{call_edges}
use Rattle.mv_type_rules.specs.TypeRules.{Types, of_call}
use Rattle.mv_soundness.specs.Borrows.Covers.{Seen}
use Rattle.mv_borrow_graph.proofs.Abstract.Terms.Places.{Defined}
use Rattle.mv_borrow_graph.proofs.Abstract.Terms.Stack.{Layer, Chain}
use Rattle.mv_soundness.proofs.Borrows.View.{layer_of}
use Rattle.mv_soundness.proofs.Borrows.Links.{IsCall}

-- a frame, what the frame above it was lent, its function, and the types and edges before its instruction
pub record Stood : Type 0 where
  pub home : Module
  pub function : FunctionDefinition
  pub frame : Frame
  pub lent : List (Option Reference)
  pub types : Types
  pub edges : List Edge

abbrev pub seen_of : Stood → Seen
seen_of x = record { frame = x.frame; lent = x.lent }

abbrev pub point_of : Stood → Point
point_of x = record { home = x.home; function = x.function; types = x.types }

abbrev pub layer_at : Stood → Layer
layer_at x = layer_of x.function.acquires (seen_of x) x.edges

abbrev pub layers : List Stood → List Layer
layers [] = []
layers (x ∷ xs) = layer_at x ∷ layers xs

-- the frames are these, and each was lent what the one above it was entered with
abbrev pub StoodOn : List (Option Reference) → List Frame → List Stood → Type 0
StoodOn lent [] [] = ⊤
StoodOn lent [] (x ∷ xs) = ⊥
StoodOn lent (f ∷ fs) [] = ⊥
StoodOn lent (f ∷ fs) (x ∷ xs) = (x.frame ≡ f) × (x.lent ≡ lent) × StoodOn f.entered_with fs xs

-- each frame's number is above those of the frames below it
abbrev pub AllUnder : ℕ → List Frame → Type 0
AllUnder n [] = ⊤
AllUnder n (f ∷ fs) = (f.number < n) × AllUnder n fs

abbrev pub Descending : List Frame → Type 0
Descending [] = ⊤
Descending (f ∷ fs) = AllUnder f.number fs × Descending fs

-- a struct definition's module, by its place
abbrev pub home_of : Defined → ℕ
home_of t = t.place

module _ (depends : ℕ → ℕ → Type 0) where
  -- a frame that waits at a Call, and the one that it entered: what the rules gave at that Call
  pub record Linked (w u : Stood) : Type 0 where
    pub link : IsCall depends w.home w.function w.frame u.frame u.function.acquires
    pub edges : List Edge
    pub types : Types
    pub need : call_edges (point_of w) link.index w.edges ≡ Some edges
    pub typing : of_call w.home link.index w.types ≡ Some types

  abbrev pub LinkedTo : Stood → List Stood → Type 0
  LinkedTo u [] = ⊤
  LinkedTo u (w ∷ ws) = Linked w u × LinkedTo w ws

  -- the borrow part of what holds of each state of a run
  pub record Sound (s : State) (x : Stood) (xs : List Stood) : Type 1 where
    pub stood : StoodOn [] (frames s) (x ∷ xs)
    pub chain : Chain depends home_of (layers (x ∷ xs))
    pub links : LinkedTo x xs
    pub ordered : Descending (frames s)
    pub next : s.top.number < s.entered
