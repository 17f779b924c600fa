-- Stacks of frames, each covered by its edges, and how a waiting frame belongs to the one above it.
use Rattle.std.specs.Prelude.{◌≡◌, ℕ, ◌<◌, List, [], ◌∷◌, true, ◌⊎◌}
use Rattle.mv_borrow_graph.proofs.Abstract.Terms.Places.{Defined, Label}
use Rattle.mv_borrow_graph.proofs.Abstract.Terms.Covers.{Node, Glob, Ref, Frame, Live, Edges, InList, Covers}

-- a frame with the edges that its certificate gives at its instruction
pub record Layer : Type 1 where
  pub frame : Frame
  pub edges : Edges

pub data OnStack : Layer → List Layer → Type 1 where
  Top : {u : Layer} {rest : List Layer} → OnStack u (u ∷ rest)
  Lower : {v u : Layer} {rest : List Layer} → OnStack v rest → OnStack v (u ∷ rest)

-- the first frame waits in a call, in which the second runs: what the call's rule and the acquires lists say
pub record Calls (depends : ℕ → ℕ → Type 0) (w u : Layer) (argument : Node → Type 0) : Type 0 where
  pub passed : (g : Ref) → InList g u.frame.entry → (n : Node) × argument n × Live w.frame n g
  pub free : (n : Node) (g : Ref) (x : Label) (c : Node) → argument n → Live w.frame n g → g.mutable ≡ true → w.edges n x c → ⊥
  pub store_free : w.frame.home ≡ u.frame.home → (t : Defined) → u.frame.acquires t ≡ true
      → (w.frame.acquires t ≡ true) × ((x : Label) (c : Node) → w.edges (Glob t) x c → ⊥)
  pub later : w.frame.number < u.frame.number
  pub leads_on : (w.frame.home ≡ u.frame.home) ⊎ depends w.frame.home u.frame.home

-- a frame's acquires list names structs of its own module
abbrev pub Homed : (Defined → ℕ) → Frame → Type 0
Homed home_of f = (t : Defined) → f.acquires t ≡ true → home_of t ≡ f.home

pub data Chain (depends : ℕ → ℕ → Type 0) (home_of : Defined → ℕ) : List Layer → Type 1 where
  Bottom : {u : Layer} → Covers u.frame u.edges → Homed home_of u.frame → u.frame.entry ≡ [] → Chain depends home_of (u ∷ [])
  Above : {u w : Layer} {rest : List Layer} → Covers u.frame u.edges → Homed home_of u.frame → (argument : Node → Type 0) → Calls depends w u argument
      → Chain depends home_of (w ∷ rest) → Chain depends home_of (u ∷ (w ∷ rest))

-- where each parameter of a new frame came from: a reference in it is an argument of the caller
abbrev pub Entered : Layer → Frame → (Node → Type 0) → (Node → Node → Type 0) → Type 0
Entered w f argument came = (n : Node) (r : Ref) → Live f n r → InList r f.entry × ((m : Node) × came m n × argument m × Live w.frame m r)
