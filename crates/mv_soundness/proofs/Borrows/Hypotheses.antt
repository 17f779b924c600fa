-- What the typing of a run gives: named facts of a state, which other proofs show.
use Rattle.std.specs.Prelude.{◌≡◌, ℕ, List, [], ◌∷◌, map, Bool, true, false, Option, Some, None, ⊤, ◌⊎◌}
use Rattle.mv_move_types.specs.declared.tables.Key.{Key}
use Rattle.mv_move_types.specs.declared.token.Token.{Token}
use Rattle.mv_move_types.specs.declared.token.Token.TheVariants.{Plain, Reference as ReferenceTo, MutableReference as MutableReferenceTo}
use Rattle.mv_move_types.specs.Module.{Module, FunctionDefinition, local_type}
use Rattle.mv_machine.specs.Value.{Reference, Value, Struct, Ref, list_of}
use Rattle.mv_machine.specs.State.{Frame, State, local_value, stored_at, place_value}
use Rattle.mv_machine.specs.Live.{reference_of}
use Rattle.mv_type_rules.specs.TypeRules.{Types}
use Rattle.mv_type_rules.specs.TypesHold.{Point}
use Rattle.mv_soundness.specs.Borrows.Covers.{Seen}
use Rattle.mv_soundness.proofs.Borrows.View.{operands_of}

-- whether a type is a reference, and whether a mutable one
abbrev pub token_kind : Token → Option Bool
token_kind (Plain t) = None
token_kind (ReferenceTo t) = Some false
token_kind (MutableReferenceTo t) = Some true

-- whether an operand is a reference, and whether a mutable one
abbrev pub operand_kind : Option Reference → Option Bool
operand_kind None = None
operand_kind (Some r) = Some r.is_mutable

-- the operands, with those lent to the frame above, are references where the types are, mutable ones where those are
abbrev pub StackFits : Types → Seen → Type 0
StackFits types v = map token_kind types ≡ map operand_kind (operands_of v)

-- what a local holds is a reference where its type is
abbrev pub LocalsFit : Module → FunctionDefinition → Frame → Type 0
LocalsFit m d f = (l : ℕ) (v : Value) → local_value f l ≡ Some v → (t : Token) × (local_type m d l ≡ Some t) × (token_kind t ≡ operand_kind (reference_of v))

-- the references of a frame are as its types say
pub record Fits (p : Point) (v : Seen) : Type 0 where
  pub stack : StackFits p.types v
  pub locals : LocalsFit p.home p.function v.frame

-- none of the values is a reference
abbrev pub NoneOf : List Value → Type 0
NoneOf [] = ⊤
NoneOf (v ∷ vs) = (reference_of v ≡ None) × NoneOf vs

-- the value is no struct that has a reference among its fields
abbrev pub HoldsNone : Value → Type 0
HoldsNone (Struct name fields) = NoneOf (list_of fields)
HoldsNone _ = ⊤

-- no reference stands inside a value: not in the storage, not under a reference, not in a struct on the stack
pub record NoneInside (s : State) : Type 0 where
  pub stored : (key : Key) (v : Value) → stored_at s.storage key ≡ Some v → reference_of v ≡ None
  pub led_to : (r : Reference) (below : List Value) (v : Value) → s.top.stack ≡ Ref r ∷ below → place_value s r.place ≡ Some v → reference_of v ≡ None
  pub fields : (v : Value) (below : List Value) → s.top.stack ≡ v ∷ below → HoldsNone v

-- the reference is in the list
abbrev pub InRefs : Reference → List Reference → Type 0
InRefs r [] = ⊥
InRefs r (x ∷ xs) = (r ≡ x) ⊎ InRefs r xs
