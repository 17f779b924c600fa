-- The machine's frames, places and edges as the borrow theory sees them.
use Rattle.std.specs.Prelude.{◌≡◌, ℕ, List, [], ◌∷◌, ◌++◌, map, reverse, Bool, true, false, ◌&&◌, ◌==◌, ◌⊎◌, Option, Some, None}
use Rattle.std.specs.List.{list_any}
use Rattle.mv_move_types.specs.declared.borrow.Node.{Node}
use Rattle.mv_move_types.specs.declared.borrow.Node.TheVariants.{Slot, Own, Glob, Temp}
use Rattle.mv_machine.specs.Value.{Root, Local, Stored, Place, Reference, Value}
use Rattle.mv_machine.specs.Live.{reference_of}
use Rattle.mv_edges.specs.Edges.{Label, Edge}
use Rattle.mv_type_rules.specs.TypesHold.{Point}
use Rattle.mv_certificate_rules.specs.BorrowRules.{is_mutable}
use Rattle.mv_soundness.specs.Borrows.Covers.{Seen}
use Rattle.mv_borrow_graph.proofs.Abstract.Terms.Places.{Defined, Root as TheRoot, Local as InLocal, Global as InStore, Place as ThePlace, Label as TheLabel, Exact, Open}
use Rattle.mv_borrow_graph.proofs.Abstract.Terms.Covers.{Node as TheNode, Slot as AtSlot, Own as AtOwn, Glob as AtGlob, Temp as AtTemp, Ref as TheRef, Edges}
use Rattle.mv_borrow_graph.proofs.Abstract.Terms.Lists.{Value as TheValue, Plain, Reference as Held, Activation, refs_among, seen as seen_frame}
use Rattle.mv_borrow_graph.proofs.Abstract.Terms.Stack.{Layer}
use Rattle.mv_machine.specs.State.{Frame}

-- a struct definition by the place of its module and its index there
abbrev pub defined : ℕ → ℕ → Defined
defined place index = record { place = place; index = index }

abbrev pub root_of : Root → TheRoot
root_of (Local n l) = InLocal n l
root_of (Stored key) = InStore key.address (defined key.place key.index)

abbrev pub place_of : Place → ThePlace
place_of p = record { root = root_of p.root; path = p.path }

abbrev pub ref_of : Reference → TheRef
ref_of r = record { mutable = r.is_mutable; place = place_of r.place }

-- a node of a function of the module at a place
abbrev pub node_of : ℕ → Node → TheNode
node_of place (Slot l) = AtSlot l
node_of place (Own l) = AtOwn l
node_of place (Glob t) = AtGlob (defined place t)
node_of place (Temp k) = AtTemp k

abbrev pub label_from : Bool → List ℕ → TheLabel
label_from true path = Open path
label_from false path = Exact path

abbrev pub label_of : Label → TheLabel
label_of x = label_from x.is_open x.path

-- an operand or local by the reference that it is, if it is one
abbrev pub held_as : Option Reference → TheValue
held_as None = Plain 0
held_as (Some r) = Held (ref_of r)

abbrev pub value_of : Value → TheValue
value_of v = held_as (reference_of v)

abbrev pub local_of : Option Value → Option TheValue
local_of None = None
local_of (Some v) = Some (value_of v)

-- the operands as references, the topmost first; those that the frame above was lent stand on top
abbrev pub operands_of : Seen → List (Option Reference)
operands_of v = reverse v.lent ++ map reference_of v.frame.stack

abbrev pub acquires_of : ℕ → List ℕ → Defined → Bool
acquires_of place acquires t = (t.place == place) && list_any (λ y. y == t.index) acquires

-- a frame, whose function has this acquires list
abbrev pub activation : List ℕ → Seen → Activation
activation acquires v = record {
  number = v.frame.number;
  home = v.frame.function.place;
  acquires = acquires_of v.frame.function.place acquires;
  entry = refs_among (map held_as (reverse v.frame.entered_with));
  locals = map local_of v.frame.locals;
  stack = map held_as (operands_of v);
}

-- an edge is in a list
abbrev pub Member : Edge → List Edge → Type 0
Member e [] = ⊥
Member e (x ∷ xs) = (e ≡ x) ⊎ Member e xs

-- a node is in a list
abbrev pub AmongNodes : Node → List Node → Type 0
AmongNodes n [] = ⊥
AmongNodes n (x ∷ xs) = (n ≡ x) ⊎ AmongNodes n xs

-- the edges of a list, in a function of the module at a place
abbrev pub edges_of : ℕ → List Edge → Edges
edges_of place es = λ p x c. (e : Edge) × Member e es × (p ≡ node_of place e.from) × (x ≡ label_of e.label) × (c ≡ node_of place e.to)

-- a node's mutability
abbrev pub kind_at : Point → TheNode → Bool
kind_at p (AtSlot l) = is_mutable p (Slot l)
kind_at p (AtOwn l) = false
kind_at p (AtGlob t) = false
kind_at p (AtTemp k) = is_mutable p (Temp k)

-- a frame with its edges
abbrev pub layer_of : List ℕ → Seen → List Edge → Layer
layer_of acquires v es = record { frame = seen_frame (activation acquires v); edges = edges_of v.frame.function.place es }

-- a frame that lent nothing
abbrev pub alone : Frame → Seen
alone f = record { frame = f; lent = [] }
