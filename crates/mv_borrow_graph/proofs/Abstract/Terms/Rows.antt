-- What each rule of borrows needs of the edges before it, and which edges it leaves.
use Rattle.std.specs.Prelude.{◌≡◌, ℕ, ◌≤◌, ◌+◌, [], ◌⊎◌, Bool, true, false}
use Rattle.mv_borrow_graph.proofs.Abstract.Terms.Places.{Defined, Label, Exact, extend, opened, Agrees}
use Rattle.mv_borrow_graph.proofs.Abstract.Terms.Covers.{Node, Slot, Own, Glob, Temp, Edges}

-- the edges after each row, by what was there before it; k is the place of the stack that the row takes or gives
abbrev pub after_copy : ℕ → ℕ → Edges → Edges
after_copy l k e = λ p x c. e p x c ⊎ ((c ≡ Temp k) × e p x (Slot l))

abbrev pub after_copy_mutable : ℕ → ℕ → Edges → Edges
after_copy_mutable l k e = λ p x c. after_copy l k e p x c ⊎ ((p ≡ Slot l) × (x ≡ Exact []) × (c ≡ Temp k))

-- the edges away from the place k
abbrev pub apart_from : ℕ → Edges → Edges
apart_from k e = λ p x c. (p ≡ Temp k → ⊥) × (c ≡ Temp k → ⊥) × e p x c

abbrev pub after_field : ℕ → ℕ → Edges → Edges
after_field position k e = λ p x c. apart_from k e p x c ⊎ ((c ≡ Temp k) × (p ≡ Temp k → ⊥) × (y : Label) × e p y (Temp k) × (x ≡ extend position y))

abbrev pub after_freeze : ℕ → Edges → Edges
after_freeze k e = λ p x c. (p ≡ Temp k → ⊥) × e p x c

abbrev pub after_borrow : Node → ℕ → Edges → Edges
after_borrow root k e = λ p x c. e p x c ⊎ ((p ≡ root) × (x ≡ Exact []) × (c ≡ Temp k))

-- the edges of the reference of one node now stand at another
abbrev pub after_rename : (Node → Node → Type 0) → Edges → Edges
after_rename renamed e = λ p x c. (q : Node) × (d : Node) × renamed q p × renamed d c × e q x d

-- an argument stands at or above the height under the arguments
abbrev pub IsArgument : ℕ → Node → Type 0
IsArgument height n = (k : ℕ) × (n ≡ Temp k) × (height ≤ k)

-- a Call whose arguments stood from the height up: `result i` says that result i is mutable, `lent` which nodes hold references,
-- and `given` which results are references
abbrev pub after_call : ℕ → (Node → Bool) → (ℕ → Bool) → (Node → Type 0) → (ℕ → Type 0) → Edges → Edges
after_call height kind result lent given e = λ p x c. (IsArgument height p → ⊥) × (
    ((IsArgument height c → ⊥) × e p x c)
    ⊎ ((i : ℕ) × (c ≡ Temp (height + i)) × given i × (j : Node) × IsArgument height j × lent j × (result i ≡ true → kind j ≡ true) × (y : Label) × e p y j × (x ≡ opened y)))

-- what a node's reference is called after one node is renamed to another
abbrev pub Renamed : Node → Node → Node → Node → Type 0
Renamed from to q p = ((q ≡ from) × (p ≡ to)) ⊎ ((q ≡ from → ⊥) × (p ≡ q))

abbrev pub after_move : ℕ → ℕ → Edges → Edges
after_move l k e = after_rename (Renamed (Slot l) (Temp k)) e

abbrev pub after_store : ℕ → ℕ → Edges → Edges
after_store l k e = after_rename (Renamed (Temp k) (Slot l)) (λ p x c. (p ≡ Slot l → ⊥) × (c ≡ Slot l → ⊥) × e p x c)

-- the rows; what each needs of the edges and leaves, the operand or the new reference standing at place k
pub data Row : Type 0 where
  CopyRef : ℕ → Row
  CopyMut : ℕ → Row
  MoveRef : ℕ → Row
  StoreRef : ℕ → Row
  BorrowLocal : Bool → ℕ → Row
  BorrowField : Bool → ℕ → Row
  BorrowGlobal : Bool → Defined → Row
  Freeze : Row
  Drop : Row

-- none, for a mutable borrow; none to a mutable node, for an immutable one
abbrev pub Bars : Bool → (Node → Bool) → Node → Type 0
Bars true kind c = Unit {0}
Bars false kind c = kind c ≡ true

abbrev pub Need : Row → ℕ → (Node → Bool) → Edges → Type 0
Need (CopyRef l) k kind e = Unit {0}
Need (CopyMut l) k kind e = (x : Label) (c : Node) → e (Slot l) x c → ⊥
Need (MoveRef l) k kind e = Unit {0}
Need (StoreRef l) k kind e = Unit {0}
Need (BorrowLocal m l) k kind e = (x : Label) (c : Node) → e (Own l) x c → Bars m kind c → ⊥
Need (BorrowField m f) k kind e = (x : Label) (c : Node) → e (Temp k) x c → Bars m kind c → Agrees x f → ⊥
Need (BorrowGlobal m t) k kind e = (x : Label) (c : Node) → e (Glob t) x c → Bars m kind c → ⊥
Need Freeze k kind e = (x : Label) (c : Node) → e (Temp k) x c → kind c ≡ true → ⊥
Need Drop k kind e = Unit {0}

abbrev pub After : Row → ℕ → Edges → Edges
After (CopyRef l) k e = after_copy l k e
After (CopyMut l) k e = after_copy_mutable l k e
After (MoveRef l) k e = after_move l k e
After (StoreRef l) k e = after_store l k e
After (BorrowLocal m l) k e = after_borrow (Own l) k e
After (BorrowField m f) k e = after_field f k e
After (BorrowGlobal m t) k e = after_borrow (Glob t) k e
After Freeze k e = after_freeze k e
After Drop k e = apart_from k e
