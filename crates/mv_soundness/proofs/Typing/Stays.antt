-- The row at which a typed state stands, and the typed state that a rule leads to in the same frame.
use Rattle.mv_soundness.proofs.Typing.Common.{◌≡◌, ℕ, ◌+◌, List, ◌∷◌, subst, Option, Result, Ok, Err, Module, Instruction, Token, Frame, State, root_value, Storage, Here, gives, Failure}
use Rattle.mv_soundness.proofs.Typing.Common.{Value, Types, TypesAt, SoundStore, Advance, Row, HasToken, HaveTokens, LocalsHaveTokens, Numbered, AreWaiting, StateTyped, TurnTyped}
use Rattle.mv_soundness.proofs.Typing.Common.{StorageTyped}
use Rattle.mv_machine.specs.{State.Event, StepParts.with_top}
use Rattle.mv_soundness.proofs.{Typing.Parts.Part, Typing.Operands.one_operand}

-- the state with these locals, operands and frames below, this storage and these events, at this instruction of the frame at work
abbrev pub moved_to : State → ℕ → List (Option Value) → List Value → List Frame → Storage → List Event → State
moved_to s target locals stack below storage events =
    record s { top = record (s.top) { at = target; locals = locals; stack = stack }; below = below; storage = storage; events = events }

-- it is typed where its parts are
pub moved : (h : Here) (i : Instruction) (types after : Types) (row : Row h i types after) (target : ℕ)
    (locals : List (Option Value)) (stack : List Value) (below : List Frame) (storage : Storage) (events : List Event)
    → TypesAt h.home h.function target after → Numbered h.state.top.number below
    → LocalsHaveTokens h.modules (root_value (moved_to h.state target locals stack below storage events)) h.home locals row.stands.tokens
    → HaveTokens h.modules (root_value (moved_to h.state target locals stack below storage events)) h.home stack after
    → AreWaiting h.modules (root_value (moved_to h.state target locals stack below storage events)) h.state.top.entered_with row.stands.results below
    → StorageTyped h.modules storage → StateTyped h.modules (moved_to h.state target locals stack below storage events)
moved h i types after row target locals stack below storage events next numbered held typed waiting stored = record {
  home = h.home;
  function = h.function;
  types = after;
  is_home = row.is_home;
  is_function = row.is_function;
  are_types = next;
  stands = record {
    tokens = row.stands.tokens;
    results = row.stands.results;
    numbered = (row.stands.numbered.0, numbered);
    are_tokens = row.stands.are_tokens;
    are_results = row.stands.are_results;
    locals = held;
    stack = typed;
    below = waiting;
    storage = stored;
  };
}

-- the operand on top, where the row's types have one
pub top_typed : (h : Here) (i : Instruction) (types after : Types) → Row h i types after → (t : Token) (below : Types) → types ≡ t ∷ below
    → (v : Value) × (vs : List Value) × (h.state.top.stack ≡ v ∷ vs) × HasToken h.modules (root_value h.state) h.home v t × HaveTokens h.modules (root_value h.state) h.home vs below
top_typed h i types after row t below same =
    one_operand h.modules (root_value h.state) h.home h.state.top.stack t below
    (subst (λ (ts : Types). HaveTokens h.modules (root_value h.state) h.home h.state.top.stack ts) same row.stands.stack)

-- the state with these operands, at this instruction
pub stays_at : (h : Here) (i : Instruction) (types after : Types) (stack : List Value) (target : ℕ) → Row h i types after
    → HaveTokens h.modules (root_value h.state) h.home stack after → TypesAt h.home h.function target after
    → StateTyped h.modules (with_top h.state (record (h.state.top) { stack = stack; at = target }))
stays_at h i types after stack target row typed next =
    moved h i types after row target h.state.top.locals stack h.state.below h.state.storage h.state.events next row.stands.numbered.1 row.stands.locals typed row.stands.below row.stands.storage

-- a rule that gives the operands
pub gives_typed : (h : Here) (i : Instruction) (types after : Types) (part : Result (List Value) Failure) → Row h i types after → TypesAt h.home h.function (h.state.top.at + 1) after →
    Part (λ stack. HaveTokens h.modules (root_value h.state) h.home stack after) part → Part (TurnTyped h.modules) (gives h part)
gives_typed h i types after (Ok stack) row next typed = stays_at h i types after stack (h.state.top.at + 1) row typed next
gives_typed h i types after (Err e) row next typed = typed

-- what a typed state stands at
abbrev pub here_of : (modules : List Module) (s : State) → StateTyped modules s → Here
here_of modules s typed = record { modules = modules; home = typed.home; function = typed.function; state = s }

abbrev pub advance_of : (modules : List Module) (s : State) → SoundStore modules → (typed : StateTyped modules s) → Advance typed.home typed.function s.top.at typed.types
advance_of modules s store typed = store.advance s.top.function.place s.top.function.index s.top.at typed.home typed.function typed.types typed.is_home typed.is_function typed.are_types

-- the row of its instruction
pub row_of : (modules : List Module) (s : State) (store : SoundStore modules) (typed : StateTyped modules s)
    → Row (here_of modules s typed) (advance_of modules s store typed).instruction typed.types (advance_of modules s store typed).after
row_of modules s store typed =
    let a : Advance typed.home typed.function s.top.at typed.types = advance_of modules s store typed in
    record {
      facts = store.facts typed.home typed.function s typed.is_home typed.is_function;
      is_home = typed.is_home;
      is_function = typed.is_function;
      is_next = a.is_there;
      before = typed.are_types;
      stands = typed.stands;
      rule = a.rule;
      fits = a.fits;
      leads = a.leads;
    }
