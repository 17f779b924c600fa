-- A step is some instruction's rule; what every step keeps, a whole run keeps.
use Rattle.mv_machine.proofs.Common.{[], ℕ, ◌+◌, ◌≡◌, Bool, Err, List, Ok, Result, Some, false, length, refl, subst, suc, true, zero, list_all, nat_lt, slice_get, FunctionDefinition, Module}
use Rattle.mv_machine.proofs.Common.{FunctionCall, RunOutcome, follows, goes_with, run, turns, State, Storage, Goes, Returns, entered_frame, step, Aborts, Failure, Faults}
use Rattle.mv_machine.specs.State.{Event, frames}
use Rattle.mv_move_types.specs.Flow.{successors}
use Rattle.mv_machine.specs.Step.{Turn}
use Rattle.mv_machine.specs.Run.{first_state, outcome_from}
use Rattle.mv_machine.proofs.Laws.{on_need}
use Rattle.mv_machine.proofs.Effects.{Ends}
use Rattle.mv_machine.specs.Returns.{AtReturn}
use Rattle.mv_machine.proofs.Binds.{on_some, WhereOk}
use Rattle.mv_machine.proofs.RuleEffects.{rule-ends}

-- where a step stands, and what it does
pub record Stepped (modules : List Module) (s : State) (t : Turn) : Type 0 where
  pub home : Module
  pub function : FunctionDefinition
  pub home_is : slice_get modules s.top.function.place ≡ Some home
  pub function_is : slice_get home.functions s.top.function.index ≡ Some function
  pub ends : Ends (record { modules = modules; home = home; function = function; state = s }) t

pub step-stepped : (modules : List Module) (s : State) (t : Turn) → step modules s ≡ Ok t → Stepped modules s t
unfolding step
step-stepped modules s t e =
    on_some (slice_get modules s.top.function.place) _ _ t e (λ home home_is e1.
    on_some (slice_get home.functions s.top.function.index) _ _ t e1 (λ function function_is e2.
    on_some (slice_get function.code s.top.at) _ _ t e2 (λ i i_is e3.
    on_need (list_all (λ t. nat_lt t (length function.code)) (successors s.top.at i)) _ _ t e3 (λ inside e4.
    record {
      home = home;
      function = function;
      home_is = home_is;
      function_is = function_is;
      ends = rule-ends i (record { modules = modules; home = home; function = function; state = s }) t e4;
    }))))

goes_with-keeps : (P : Storage → List Event → Type 0) (I : State → Type 0) (full : Bool) (go : State → RunOutcome) (s : State) (steps : ℕ) →
    ((t : State) → I t → AtReturn P (go t)) → I (record s { steps = steps }) → AtReturn P (goes_with full go s steps)
goes_with-keeps P I true go s steps kept i = tt
goes_with-keeps P I false go s steps kept i = kept (record s { steps = steps }) i

follows-keeps : (P : Storage → List Event → Type 0) (I : State → Type 0) (go : State → RunOutcome) (steps : ℕ) (r : Result Turn Failure) →
    ((t : State) → I t → AtReturn P (go t)) → ((t : State) → r ≡ Ok (Goes t) → I (record t { steps = steps })) →
    ((t : State) → r ≡ Ok (Returns t) → P t.storage t.events) → AtReturn P (follows go steps r)
follows-keeps P I go steps (Ok (Goes t)) kept goes gone = goes_with-keeps P I (nat_lt 256 (length (frames t))) go t steps kept (goes t refl)
follows-keeps P I go steps (Ok (Returns t)) kept goes gone = gone t refl
follows-keeps P I go steps (Err (Aborts kind number)) kept goes gone = tt
follows-keeps P I go steps (Err (Faults fault)) kept goes gone = tt

-- what every step keeps, whatever the count of steps, is there at the return
pub turns-keeps : (P : Storage → List Event → Type 0) (I : State → Type 0) (modules : List Module) →
    ((s t : State) (n : ℕ) → I s → step modules s ≡ Ok (Goes t) → I (record t { steps = n })) →
    ((s t : State) → I s → step modules s ≡ Ok (Returns t) → P t.storage t.events) →
    (n : ℕ) (s : State) → I s → AtReturn P (turns modules n s)
unfolding turns
turns-keeps P I modules goes gone zero s i = tt
turns-keeps P I modules goes gone (suc n) s i =
    follows-keeps P I (turns modules n) (s.steps + 1) (step modules s) (turns-keeps P I modules goes gone n)
    (λ t e. goes s t (s.steps + 1) i e) (λ t e. gone s t i e)

-- the state that a run of a call begins with, with so many locals that hold nothing yet
abbrev pub begun : Storage → FunctionCall → ℕ → State
begun storage call others = record {
  top = entered_frame 0 call.function call.arguments others;
  below = [];
  storage = storage;
  steps = 0;
  events = [];
  entered = 1;
}

outcome-keeps : (P : Storage → List Event → Type 0) (modules : List Module) (budget : ℕ) (r : Result State Failure) →
    ((s : State) → r ≡ Ok s → AtReturn P (turns modules budget s)) → AtReturn P (outcome_from modules budget r)
outcome-keeps P modules budget (Ok s) kept = kept s refl
outcome-keeps P modules budget (Err (Aborts kind number)) kept = tt
outcome-keeps P modules budget (Err (Faults fault)) kept = tt

-- what holds at the beginning, and every step keeps, is there at the return
pub run-keeps : (P : Storage → List Event → Type 0) (I : State → Type 0) (modules : List Module) (storage : Storage) (call : FunctionCall) →
    ((others : ℕ) → I (begun storage call others)) →
    ((s t : State) (n : ℕ) → I s → step modules s ≡ Ok (Goes t) → I (record t { steps = n })) →
    ((s t : State) → I s → step modules s ≡ Ok (Returns t) → P t.storage t.events) →
    (budget : ℕ) → AtReturn P (run modules storage call budget)
unfolding run
run-keeps P I modules storage call begins goes gone budget =
    outcome-keeps P modules budget (first_state modules storage call) (λ s e.
    on_some (slice_get modules call.function.place) _ _ s e (λ home home_is e1.
    on_some (slice_get home.functions call.function.index) _ _ s e1 (λ d d_is e2.
    on_some (slice_get home.signatures d.locals) _ _ s e2 (λ others others_are e3.
    turns-keeps P I modules goes gone budget s (subst (WhereOk I) e3 (begins (length others)))))))
