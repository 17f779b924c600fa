-- What is known of a frame covers the frame as it is.
--   Seen                      a frame, with the references that the frame above it was entered with
--   reference_at v node       the live reference at a node
--   StandsFor v node place    a node of the borrow graph stands for a place of the machine
--   Follows label p c         a path goes on from another one by a label
--   Matches v edge            what its second node stands for lies at its label from what the first one stands for
--   HasEdge known v from to   a known edge between these nodes matches
--   IsAs a local              a local holds a value, or none, as its availability says
--   IsOwn, IsLent             a reference leads into the frame's own roots, or at or below an argument
--   Covers known v acquires   what is known at the frame's instruction covers the frame as it is
-- The others are parts of these. Why a frame keeps what it was entered with: decision 3.
use Rattle.std.specs.Prelude.{◌≡◌, ◌≢◌, ◌⊎◌, ℕ, false, IsTrue, List, [], ◌++◌, map, reverse, Option, Some, None, Contains, IsSome, option_and_then, slice_get}
use Rattle.mv_move_types.specs.declared.tables.Key.{Key}
use Rattle.mv_move_types.specs.declared.borrow.Availability.{Availability}
use Rattle.mv_move_types.specs.declared.borrow.Availability.TheVariants.{Unavailable, Available, Maybe}
use Rattle.mv_move_types.specs.declared.borrow.Node.{Node}
use Rattle.mv_move_types.specs.declared.borrow.Node.TheVariants.{Slot, Own, Glob, Temp}
use Rattle.mv_machine.specs.Value.{Root, Local, Stored, Place, Reference, Value}
use Rattle.mv_machine.specs.State.{Frame, local_value}
use Rattle.mv_machine.specs.Live.{reference_of, overlap}
use Rattle.mv_edges.specs.Edges.{Label, Edge}
use Rattle.mv_certificate_rules.specs.Certificate.{Known}

-- a frame, and for each argument of the frame above it the reference that it is, if it is one
pub record Seen : Type 0 where
  pub frame : Frame
  pub lent : List (Option Reference)

-- the references on the stack by their places, with those that the frame above was lent
abbrev pub stack_references : Seen → List (Option Reference)
stack_references v = map reference_of (reverse v.frame.stack) ++ v.lent

-- the reference at a place of such a list, if there is one
abbrev pub at_place : List (Option Reference) → ℕ → Option Reference
at_place rs k = option_and_then (λ r. r) (slice_get rs k)

-- the live reference at a node
abbrev pub reference_at : Seen → Node → Option Reference
reference_at v (Slot l) = option_and_then reference_of (local_value v.frame l)
reference_at v (Temp k) = at_place (stack_references v) k
reference_at v (Own l) = None
reference_at v (Glob t) = None

-- a node stands for this place
abbrev pub StandsFor : Seen → Node → Place → Type 0
StandsFor v (Own l) p = p ≡ record { root = Local v.frame.number l; path = [] }
StandsFor v (Glob t) p =
    (address : ℕ) × (p ≡ record { root = Stored (record { address = address; place = v.frame.function.place; index = t }); path = [] })
StandsFor v (Slot l) p = (r : Reference) × (reference_at v (Slot l) ≡ Some r) × (p ≡ r.place)
StandsFor v (Temp k) p = (r : Reference) × (reference_at v (Temp k) ≡ Some r) × (p ≡ r.place)

-- the path goes on by exactly the label's list, or by that and any more
abbrev pub Follows : Label → List ℕ → List ℕ → Type 0
Follows label p c =
    (more : List ℕ) × (c ≡ p ++ label.path ++ more) × (label.is_open ≡ false → more ≡ [])

-- the edge matches: what its second node stands for lies at its label from what the first one stands for
pub record Matches (v : Seen) (e : Edge) : Type 0 where
  pub parent : Place
  pub child : Place
  pub from : StandsFor v e.from parent
  pub to : StandsFor v e.to child
  pub root : child.root ≡ parent.root
  pub path : Follows e.label parent.path child.path

-- a known edge between these nodes matches
abbrev pub HasEdge : Known → Seen → Node → Node → Type 0
HasEdge known v from to =
    (label : Label) × Contains known.edges (record { from = from; label = label; to = to })
    × Matches v (record { from = from; label = label; to = to })

-- a local that is called available holds a value, and one that is called unavailable holds none
abbrev pub IsAs : Availability → Option Value → Type 0
IsAs Available local = IsSome local
IsAs Unavailable local = local ≡ None
IsAs Maybe local = Unit {0}

-- a key of a struct that the frame's function acquires
abbrev pub IsAcquired : Seen → List ℕ → Key → Type 0
IsAcquired v acquires key = (key.place ≡ v.frame.function.place) × Contains acquires key.index

-- the root is a local of the frame, or a key of an acquired struct
abbrev pub IsOwn : Seen → List ℕ → Root → Type 0
IsOwn v acquires (Local f l) = f ≡ v.frame.number
IsOwn v acquires (Stored key) = IsAcquired v acquires key

-- the reference lies at or below an argument's place, a mutable one below a mutable one
abbrev pub IsLent : Frame → Reference → Type 0
IsLent f r =
    (a : Reference) × (more : List ℕ) × Contains f.entered_with (Some a) × (r.place.root ≡ a.place.root)
    × (r.place.path ≡ a.place.path ++ more) × (IsTrue r.is_mutable → IsTrue a.is_mutable)

-- what is known covers the frame, whose function has this acquires list
pub record Covers (known : Known) (v : Seen) (acquires : List ℕ) : Type 0 where
  pub locals : (l : ℕ) (a : Availability) (local : Option Value) → slice_get known.locals l ≡ Some a → slice_get v.frame.locals l ≡ Some local → IsAs a local
  pub own : (n : Node) (r : Reference) (l : ℕ) → reference_at v n ≡ Some r → r.place.root ≡ Local v.frame.number l → HasEdge known v (Own l) n
  pub acquired : (n : Node) (r : Reference) (key : Key)
      → reference_at v n ≡ Some r → r.place.root ≡ Stored key → IsAcquired v acquires key → HasEdge known v (Glob key.index) n
  pub between : (m n : Node) (q r : Reference) → m ≢ n → reference_at v m ≡ Some q → reference_at v n ≡ Some r
      → IsTrue (overlap q.place r.place) → IsTrue q.is_mutable ⊎ IsTrue r.is_mutable
      → (IsTrue q.is_mutable × HasEdge known v m n) ⊎ (IsTrue r.is_mutable × HasEdge known v n m)
  pub others : (n : Node) (r : Reference) → reference_at v n ≡ Some r → IsOwn v acquires r.place.root ⊎ IsLent v.frame r
