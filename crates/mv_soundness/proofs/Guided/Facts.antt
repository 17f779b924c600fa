-- What the store of modules and the types give to the borrow theory at each step: named facts, which other proofs show.
use Rattle.std.specs.Prelude.{◌≡◌, ℕ, true, ◌&&◌, IsTrue, List, ◌∷◌, Some, None, slice_get, ⊤}
use Rattle.mv_move_types.specs.declared.token.Token.{Token}
use Rattle.mv_move_types.specs.declared.instruction.Instruction.{Instruction}
use Rattle.mv_move_types.specs.declared.instruction.Instruction.TheVariants.{Pop, Ret, CopyLoc, StLoc, Call, ReadRef, WriteRef, Eq, Neq}
use Rattle.mv_move_types.specs.Module.{Module, FunctionDefinition, local_tokens, local_type}
use Rattle.mv_machine.specs.Value.{Reference, Value, Ref}
use Rattle.mv_machine.specs.State.{State, root_value, place_value}
use Rattle.mv_machine.specs.Live.{reference_of, live}
use Rattle.mv_certificate_rules.specs.Certificate.{Known, Certificate, Stated, all_locals_hold, all_edges_hold}
use Rattle.mv_certificate_rules.specs.LocalsRules.{has_drop}
use Rattle.mv_type_rules.specs.TypeRules.{Types}
use Rattle.mv_certificate.specs.Known.{known_before}
use Rattle.mv_soundness.specs.Borrows.Covers.{Seen}
use Rattle.mv_machine.specs.StepParts.{Here, can_copy, can_drop}
use Rattle.mv_soundness.proofs.Borrows.Hypotheses.{Fits, NoneInside, InRefs}
use Rattle.mv_soundness.proofs.Borrows.Links.{CallFacts, Reaches}
use Rattle.mv_soundness.proofs.Borrows.View.{alone}
use Rattle.mv_soundness.proofs.Borrows.Locals.{DropFits}

-- ---- the store

-- each module has a certificate that holds, reaches in the storage what it acquires, and calls as its handles say
pub record StoreFacts (depends : ℕ → ℕ → Type 0) (modules : List Module) (certificates : List Certificate) : Type 0 where
  pub through : (a b c : ℕ) → depends a b → depends b c → depends a c
  pub no_cycle : (a : ℕ) → depends a a → ⊥
  pub certified : (place : ℕ) (m : Module) → slice_get modules place ≡ Some m → (c : Certificate) × (slice_get certificates place ≡ Some c) × IsTrue (all_locals_hold m c) × IsTrue (all_edges_hold m c)
  pub reaches : (place index at : ℕ) (m : Module) (d : FunctionDefinition) (i : Instruction) → slice_get modules place ≡ Some m
      → slice_get m.functions index ≡ Some d → slice_get d.code at ≡ Some i → Reaches d.acquires i
  pub calls : (s : State) (m : Module) (d : FunctionDefinition) (i : ℕ) → slice_get modules s.top.function.place ≡ Some m
      → slice_get m.functions s.top.function.index ≡ Some d → slice_get d.code s.top.at ≡ Some (Call i)
      → CallFacts depends (record { modules = modules; home = m; function = d; state = s }) i

-- ---- the types

-- a frame's references are as the types say that are carried to its instruction
abbrev pub FrameFits : List Module → Seen → Type 0
FrameFits modules v =
    (home : Module) (function : FunctionDefinition) (stated : Stated) (known : Known) (types : Types) →
    slice_get modules v.frame.function.place ≡ Some home → slice_get home.functions v.frame.function.index ≡ Some function →
    known_before home function stated v.frame.at ≡ Some (known, types) → Fits (record { home = home; function = function; types = types }) v

-- what a live reference leads into is there, and is no reference
abbrev pub Rooted : State → Type 0
Rooted s = (r : Reference) → InRefs r (live s) → (v : Value) × (root_value s r.place.root ≡ Some v) × (reference_of v ≡ None)

-- what an instruction copies may be copied, and what it gives up may be dropped, where its rules on types and locals say so
abbrev pub Able : Here → Types → Instruction → Type 0
Able h types Pop = (v : Value) (below : List Value) → h.state.top.stack ≡ v ∷ below → can_drop h v ≡ true
Able h types (CopyLoc l) = (v : Value) → slice_get h.state.top.locals l ≡ Some (Some v) → can_copy h v ≡ true
Able h types (StLoc l) =
    (v : Value) (t : Token) → slice_get h.state.top.locals l ≡ Some (Some v) → local_type h.home h.function l ≡ Some t
    → has_drop (record { home = h.home; function = h.function; types = types }) t ≡ true → can_drop h v ≡ true
Able h types ReadRef = (r : Reference) (below : List Value) (v : Value) → h.state.top.stack ≡ Ref r ∷ below → place_value h.state r.place ≡ Some v → can_copy h v ≡ true
Able h types WriteRef = (r : Reference) (below : List Value) (v : Value) → h.state.top.stack ≡ Ref r ∷ below → place_value h.state r.place ≡ Some v → can_drop h v ≡ true
Able h types Eq = (v w : Value) (below : List Value) → h.state.top.stack ≡ v ∷ w ∷ below → (can_drop h w && can_drop h v) ≡ true
Able h types Neq = (v w : Value) (below : List Value) → h.state.top.stack ≡ v ∷ w ∷ below → (can_drop h w && can_drop h v) ≡ true
Able h types Ret = (tokens : List Token) → local_tokens h.home h.function ≡ Some tokens → DropFits h (record { home = h.home; function = h.function; types = types }) tokens h.state.top.locals
Able h types _ = ⊤

-- at the instruction that comes next
abbrev pub NextAble : List Module → State → Type 0
NextAble modules s =
    (home : Module) (function : FunctionDefinition) (stated : Stated) (known : Known) (types : Types) (i : Instruction) → slice_get modules s.top.function.place ≡ Some home →
    slice_get home.functions s.top.function.index ≡ Some function → known_before home function stated s.top.at ≡ Some (known, types) → slice_get function.code s.top.at ≡ Some i →
    Able (record { modules = modules; home = home; function = function; state = s }) types i

-- what the types give of a state
pub record TypeFacts (modules : List Module) (s : State) : Type 0 where
  pub fit : FrameFits modules (alone s.top)
  pub inside : NoneInside s
  pub rooted : Rooted s
  pub able : NextAble modules s
