-- Frames with lists of locals and operands, and their live references.
use Rattle.mv_borrow_graph.proofs.Abstract.Terms.Places.{Defined}
use Rattle.std.specs.Prelude.{ℕ, zero, suc, List, [], ◌∷◌, length, Bool, cond, eqb, Option, Some, None}
use Rattle.mv_borrow_graph.proofs.Abstract.Terms.Covers.{Node, Slot, Own, Glob, Temp, Ref, Frame, Live}

-- a value: what no borrow rule looks into, or a reference
pub data Value : Type 0 where
  Plain : ℕ → Value
  Reference : Ref → Value

abbrev pub ref_of : Value → Option Ref
ref_of (Plain n) = None
ref_of (Reference r) = Some r

abbrev pub ref_in : Option Value → Option Ref
ref_in None = None
ref_in (Some v) = ref_of v

-- the top of the stack first: place k is the one with k values under it
abbrev pub stack_ref : List Value → ℕ → Option Ref
stack_ref [] k = None
stack_ref (v ∷ s) k = cond (eqb k (length s)) (ref_of v) (stack_ref s k)

abbrev pub local_ref : List (Option Value) → ℕ → Option Ref
local_ref [] l = None
local_ref (x ∷ xs) zero = ref_in x
local_ref (x ∷ xs) (suc l) = local_ref xs l

abbrev pub set_local : List (Option Value) → ℕ → Option Value → List (Option Value)
set_local [] l v = []
set_local (x ∷ xs) zero v = v ∷ xs
set_local (x ∷ xs) (suc l) v = x ∷ set_local xs l v

-- the live references of a frame, each at its node; of a waiting one, with its arguments back on the stack
abbrev pub refs_of : List (Option Value) → List Value → Node → Option Ref
refs_of locals stack (Slot l) = local_ref locals l
refs_of locals stack (Own l) = None
refs_of locals stack (Glob t) = None
refs_of locals stack (Temp k) = stack_ref stack k

-- a frame of the machine, as the borrow rules see it
pub record Activation : Type 0 where
  pub number : ℕ
  pub home : ℕ
  pub acquires : Defined → Bool
  pub entry : List Ref
  pub locals : List (Option Value)
  pub stack : List Value

abbrev pub seen : Activation → Frame
seen a = record { number = a.number; home = a.home; acquires = a.acquires; entry = a.entry; refs = refs_of a.locals a.stack }

-- the locals of a new frame: the arguments, of which the top of the caller's stack is the last, and then others
abbrev pub first_locals : List Value → List (Option Value) → List (Option Value)
first_locals [] rest = rest
first_locals (v ∷ args) rest = first_locals args (Some v ∷ rest)

abbrev pub refs_among : List Value → List Ref
refs_among [] = []
refs_among (Plain n ∷ args) = refs_among args
refs_among (Reference r ∷ args) = r ∷ refs_among args

-- a node holds a live reference
abbrev pub Lent : Activation → Node → Type 0
Lent a n = (r : Ref) × Live (seen a) n r

-- a place of the stack holds a live reference
abbrev pub GivenAt : Activation → ℕ → Type 0
GivenAt a i = (r : Ref) × Live (seen a) (Temp i) r
