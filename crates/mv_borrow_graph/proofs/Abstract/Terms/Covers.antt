-- When the edges of a frame cover its live references.
use Rattle.std.specs.Prelude.{◌≡◌, ℕ, List, [], ◌∷◌, Bool, true, ◌⊎◌, Option, Some}
use Rattle.mv_borrow_graph.proofs.Abstract.Terms.Places.{Defined, Local, Global, Place, Below, Overlap, Label, Reach, Matches}

pub data Node : Type 0 where
  Slot : ℕ → Node
  Own : ℕ → Node
  Glob : Defined → Node
  Temp : ℕ → Node

pub record Ref : Type 0 where
  pub mutable : Bool
  pub place : Place

-- what the borrow rules see of a frame: its number, its module, the structs of its acquires list, the
-- reference arguments that it was entered with, and its live references, each at its node
pub record Frame : Type 0 where
  pub number : ℕ
  pub home : ℕ
  pub acquires : Defined → Bool
  pub entry : List Ref
  pub refs : Node → Option Ref

abbrev pub with_refs : Frame → (Node → Option Ref) → Frame
with_refs f refs = record { number = f.number; home = f.home; acquires = f.acquires; entry = f.entry; refs = refs }

abbrev pub Live : Frame → Node → Ref → Type 0
Live f n r = f.refs n ≡ Some r

abbrev pub Edges : Type 1
Edges = Node → Label → Node → Type 0

abbrev pub InList : Ref → List Ref → Type 0
InList r [] = ⊥
InList r (x ∷ l) = (r ≡ x) ⊎ InList r l

abbrev pub Given : Frame → Ref → Type 0
Given f r = (g : Ref) × InList g f.entry × Below r.place g.place × (r.mutable ≡ true → g.mutable ≡ true)

pub data Origin (f : Frame) (r : Ref) : Type 0 where
  FromOwn : (l : ℕ) → r.place.root ≡ Local f.number l → Origin f r
  FromStore : (a : ℕ) (t : Defined) → r.place.root ≡ Global a t → f.acquires t ≡ true → Origin f r
  FromEntry : Given f r → Origin f r

-- a matching edge leads from the first, which is mutable, to the second
abbrev pub Leads : Edges → Node → Ref → Node → Ref → Type 0
Leads e n q m r = (q.mutable ≡ true) × (x : Label) × e n x m × Matches x q.place r.place

pub record Covers (f : Frame) (e : Edges) : Type 0 where
  pub own : (n : Node) (r : Ref) (l : ℕ) → Live f n r → r.place.root ≡ Local f.number l → (x : Label) × e (Own l) x n × Reach x r.place.path
  pub glob : (n : Node) (r : Ref) (a : ℕ) (t : Defined) → Live f n r → r.place.root ≡ Global a t → f.acquires t ≡ true → (x : Label) × e (Glob t) x n × Reach x r.place.path
  pub pairs : (n m : Node) (q r : Ref) → (n ≡ m → ⊥) → Live f n q → Live f m r → Overlap q.place r.place → (q.mutable ≡ true) ⊎ (r.mutable ≡ true) → Leads e n q m r ⊎ Leads e m r n q
  pub origin : (n : Node) (r : Ref) → Live f n r → Origin f r
