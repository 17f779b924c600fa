-- A run that is answered ends as it should, and what is stored is what the tallies leave.
use Rattle.mv_ledger_state.proofs.Common.{◌+◌, ◌-◌, ◌≡◌, ◌≤◌, Err, List, Ok, Result, Some, arith, refl, subst, ℕ, slice_get, Module, WhereOk, on_some, steps_taken, turns-bound, count, Answers}
use Rattle.mv_ledger_state.proofs.Common.{LedgerState, Request, Run, admitted, attempted, modules_of, applied, Reply, Tallied, AtReturn, Faulted}
use Rattle.mv_ledger_state.proofs.Common.{FunctionCall, Returned, RunOutcome, first_state, outcome_from, turns, State, Storage, Aborts, Failure, Faults, CallEndsWell, EndsWell, EveryCountIsTallied}
use Rattle.mv_ledger_state.proofs.Common.{IsOwnWork, RunsWell}
use Rattle.mv_machine.specs.Run.{run}
use Rattle.mv_ledger_state.proofs.Counting.Own.{run-own}
use Rattle.mv_ledger_state.proofs.Lists.{all-weaker}

outcome-bound : (modules : List Module) (budget : ℕ) (r : Result State Failure) → ((s : State) → r ≡ Ok s → s.steps ≡ 0) → steps_taken (outcome_from modules budget r) ≤ budget
outcome-bound modules budget (Ok s) zero = let b : steps_taken (turns modules budget s) ≤ budget + s.steps = turns-bound modules budget s in let z : s.steps ≡ 0 = zero s refl in omega (arith, b, z)
outcome-bound modules budget (Err (Aborts kind number)) zero = omega arith
outcome-bound modules budget (Err (Faults fault)) zero = omega arith

run-bound : (modules : List Module) (storage : Storage) (call : FunctionCall) (budget : ℕ) → steps_taken (run modules storage call budget) ≤ budget
unfolding run
run-bound modules storage call budget = outcome-bound modules budget (first_state modules storage call) (λ s e.
    on_some (slice_get modules call.function.place) _ _ s e (λ home home_is e1.
    on_some (slice_get home.functions call.function.index) _ _ s e1 (λ d d_is e2.
    on_some (slice_get home.signatures d.locals) _ _ s e2 (λ others others_are e3.
    subst (WhereOk (λ (t : State). t.steps ≡ 0)) e3 refl))))

-- a run that is answered meets no fault
applied-well : (s new : LedgerState) (reply : Reply) (budget : ℕ) (outcome : RunOutcome) → steps_taken outcome ≤ budget → AtReturn (λ storage events. IsOwnWork events) outcome
    → applied s outcome ≡ Some (reply, new) → EndsWell budget outcome
applied-well s new reply budget (Returned steps storage events) b own e = (b, own)
applied-well s new reply budget (Faulted fault steps) b own e = absurd cc
applied-well _ _ _ _ _ b _ _ = b

attempted-well : (s new : LedgerState) (reply : Reply) (budget : ℕ) (r : Result FunctionCall ℕ) → attempted s budget r ≡ Some (reply, new) → CallEndsWell s budget r
attempted-well s new reply budget (Ok call) e =
    applied-well s new reply budget (run (modules_of s) s.storage call budget) (run-bound (modules_of s) s.storage call budget) (run-own (modules_of s) s.storage call budget) e
attempted-well s new reply budget (Err reason) e = tt

-- a run that is answered ends as it should
pub answered-well : (IsText : List ℕ → Module → Type 0) (old new : LedgerState) (request : Request) (reply : Reply) → Answers IsText old request reply new → RunsWell old request
answered-well IsText old new (Run r) reply a = attempted-well old new reply r.budget (admitted old r) a
answered-well _ _ _ _ _ _ = tt

pub counts-tallied : EveryCountIsTallied
counts-tallied s balanced =
    all-weaker (λ (t : Tallied). count s.storage t.struct + t.unpacks ≡ t.packs) (λ t. count s.storage t.struct ≡ t.packs - t.unpacks) (λ t b. omega (arith, b)) s.tallies balanced
