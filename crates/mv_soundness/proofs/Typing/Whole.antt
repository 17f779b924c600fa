-- The whole: a run over an accepted store, which a predicate watches all along, meets no fault.
use Rattle.mv_soundness.proofs.Typing.Common.{◌≡◌, ℕ, zero, suc, ◌+◌, true, List, length, refl, subst, Result, Ok, Bool, false, sym, Err, nat_lt, Module, FunctionCall, State, frames}
use Rattle.mv_soundness.proofs.Typing.Common.{Storage, Faults, LostFault, FrozenFault, Failure, Aborts, StoreAccepted, SoundStore, StateTyped, TurnTyped, StorageTyped}
use Rattle.mv_machine.specs.Step.{Turn, Goes, Returns, step}
use Rattle.mv_machine.specs.Run.{run, outcome_from, turns, follows, goes_with}
use Rattle.mv_soundness.specs.{Typing.Outcome.Faultless, Typing.Laws.StepTyped, Typing.Laws.EveryStepIsTyped}
use Rattle.mv_soundness.proofs.{Typing.Watched.Clean, Typing.Watched.Watches}
use Rattle.mv_soundness.proofs.{Typing.Parts.Part, Typing.Rule.step_typed, Typing.Rule.counted_typed, Typing.Addresses.accepted_is_sound}
use Rattle.mv_soundness.proofs.Typing.First.{CallTyped, begun, first_typed, first_is}

-- a part that gives what P says of it, and fails only by an abort
abbrev pub Safe : {A : Type 0} → (A → Type 0) → Result A Failure → Type 0
Safe P (Ok x) = P x
Safe P (Err (Aborts kind n)) = Unit {0}
Safe P (Err (Faults fault)) = ⊥

safe : {A : Type 0} (P : A → Type 0) (r : Result A Failure) → Part P r → Clean r → Safe P r
safe P (Err (Aborts kind n)) p c = tt
safe P (Err (Faults LostFault)) p c = c
safe P (Err (Faults FrozenFault)) p c = c
safe P r p c = p

-- a step of a typed state meets no fault, and leads to a typed state
pub step_safe : (modules : List Module) (P : State → Type 0) (s : State) → SoundStore modules → Watches modules P → StateTyped modules s → P s → Safe (TurnTyped modules) (step modules s)
step_safe modules P s store watches typed p = safe (TurnTyped modules) (step modules s) (step_typed modules s store typed (watches.guides.guards s p typed)) (watches.clean s p typed)

-- a run from a typed state, which a predicate watches all along, meets no fault
pub run_safe : (modules : List Module) (P : State → Type 0) (n : ℕ) (s : State) → SoundStore modules → Watches modules P → StateTyped modules s → P s → Faultless modules (turns modules n s)
unfolding turns
run_safe modules P zero s store watches typed p = tt
run_safe modules P (suc n) s store watches typed p = by_step (step modules s) refl (step_safe modules P s store watches typed p) (run_safe modules P n)
  where
    by_bool : (b : Bool) (t : State) → Faultless modules (turns modules n (record t { steps = s.steps + 1 })) → Faultless modules (goes_with b (turns modules n) t (s.steps + 1))
    by_bool true t ih = tt
    by_bool false t ih = ih

    by_step : (r : Result Turn Failure) → step modules s ≡ r → Safe (TurnTyped modules) r
        → ((s : State) → SoundStore modules → Watches modules P → StateTyped modules s → P s → Faultless modules (turns modules n s))
        → Faultless modules (follows (turns modules n) (s.steps + 1) r)
    by_step (Ok (Goes t)) e h ih =
        by_bool (nat_lt 256 (length (frames t))) t (ih (record t { steps = s.steps + 1 }) store watches (counted_typed modules t (s.steps + 1) h) (watches.guides.goes_on s t (s.steps + 1) p typed e))
    by_step (Ok (Returns t)) e h ih = h
    by_step (Err (Aborts kind k)) e h ih = tt
    by_step (Err (Faults fault)) e h ih = absurd h

-- a run of a typed call over an accepted store and a typed storage, which a predicate watches, meets no fault at all
pub accepted_run_safe : (modules : List Module) (P : State → Type 0) (storage : Storage) (call : FunctionCall) (budget : ℕ) → StoreAccepted modules
    → Watches modules P → (c : CallTyped modules call) → StorageTyped modules storage → P (begun storage call (length c.others))
    → Faultless modules (run modules storage call budget)
unfolding run
accepted_run_safe modules P storage call budget store watches c stored p =
    subst (λ (r : Result State Failure). Faultless modules (outcome_from modules budget r)) (sym (first_is modules storage call c))
    (run_safe modules P budget (begun storage call (length c.others)) (accepted_is_sound modules store) watches (first_typed modules storage call c stored) p)

-- ---- the law of steps

pub step_typed_law : EveryStepIsTyped
step_typed_law modules s store typed guarded = by_step (step modules s) (step_typed modules s (accepted_is_sound modules store) typed guarded)
  where
    by_step : (r : Result Turn Failure) → Part (TurnTyped modules) r → StepTyped modules r
    by_step (Ok turn) h = h
    by_step (Err failure) h = h
