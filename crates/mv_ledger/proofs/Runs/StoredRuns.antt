-- What a run leaves is what the machine's run asks for.
use Rattle.mv_ledger.proofs.Common.{◌+◌, ◌∙◌, ◌≡◌, List, Option, Some, ap, ap₂, arith, map, sym, ℕ, All-weaker, All, Module, PublishedModule, StructTally, Layers, FlatEntry}
use Rattle.mv_ledger.proofs.Common.{storage_of, LedgerState, applied, Told, Tallied, Aborted, Exhausted, Faulted, Returned, RunOutcome, Storage, HasAborted, HasExhausted, HasReturned}
use Rattle.mv_ledger.proofs.Common.{tables_in, Agrees, told, told_ending, IsApplied, run_of, tally_after, IsNamed, IsSmall, all_of, state_of, tallied, view_of, Call, Tally}
use Rattle.mv_ledger.proofs.Common.{unwrap_or, name_at, StructName, Definition, packs_at, unpacks_at, Count, tally_with, packs, unpacks, Event, some-of, nameless, Tallies}
use Rattle.mv_machine.specs.declared.Outcome.{Outcome}
use Rattle.mv_machine.specs.declared.Ending.{Ending}
use Rattle.mv_ledger.specs.Changes.{RunsTo}
use Rattle.mv_ledger.specs.declared.Reply.TheVariants.{Ran}
use Rattle.mv_frames.proofs.Tallied.{tallied-packs, tallied-unpacks}
use Rattle.mv_ledger_state.proofs.Runs.TalliesAfter.{map-where, map-then}
use Rattle.mv_ledger_state.proofs.Runs.TalliesByModule.{all-map}

module _ (published : List PublishedModule) where
  -- a struct's tally after a run
  tally-after : (run : List StructTally) (events : List Event) → Tallies (tables_in published) run events → (t : Tally)
      → IsNamed (tables_in published) t
      → tallied (tables_in published) (tally_after run t) ≡ tally_with events (tallied (tables_in published) t)
  tally-after run events counted t named =
      let name = some-of (name_at (tables_in published) t.place t.index) named in
      let d : Definition = record { place = t.place; index = t.index } in
      let struct : name.0 ≡ unwrap_or (name_at (tables_in published) t.place t.index) nameless = ap (λ (o : Option StructName). unwrap_or o nameless) (sym name.1) in
      let made : packs_at t.place t.index run ≡ packs (unwrap_or (name_at (tables_in published) t.place t.index) nameless) events =
      tallied-packs run d (did name.0) (counted.named t.place t.index name.0 name.1) ∙ ap (λ (s : StructName). packs s events) struct in
      let taken : unpacks_at t.place t.index run ≡ unpacks (unwrap_or (name_at (tables_in published) t.place t.index) nameless) events =
      tallied-unpacks run d (did name.0) (counted.named t.place t.index name.0 name.1) ∙ ap (λ (s : StructName). unpacks s events) struct in
      ap₂ (λ (m n : ℕ). grown (unwrap_or (name_at (tables_in published) t.place t.index) nameless) (t.packs + m) (t.unpacks + n)) made taken
    where
      did : StructName → Count
      did s = record { packs = packs s events; unpacks = unpacks s events }

      grown : StructName → ℕ → ℕ → Tallied
      grown s m n = record { struct = s; packs = m; unpacks = n }

-- the tallies after a run
tallies-after : (published : List PublishedModule) (run : List StructTally) (events : List Event) (ts : List Tally) → All (IsNamed (tables_in published)) ts
    → Tallies (tables_in published) run events
    → map (tallied (tables_in published)) (map (tally_after run) ts) ≡ map (tally_with events) (map (tallied (tables_in published)) ts)
tallies-after published run events ts named counted =
    map-then (tally_after run) (tallied (tables_in published)) ts
    ∙ map-where (IsNamed (tables_in published)) (λ t. tallied (tables_in published) (tally_after run t))
    (λ t. tally_with events (tallied (tables_in published) t))
    (tally-after published run events counted) ts named
    ∙ sym (map-then (tallied (tables_in published)) (tally_with events) ts)

-- tallies that are small after some runs are so after one more
pub small-kept : (runs : ℕ) (ts : List Tally) → All (IsSmall runs) ts → All (IsSmall (runs + 1)) ts
small-kept runs ts small = All-weaker (IsSmall runs) (IsSmall (runs + 1)) (λ t h. (omega (arith, h), omega (arith, h))) ts small

-- the tallies of all modules after a run
pub tallied-after : (tally own : List StructTally) (before after : List (List Tally)) → after ≡ map (map (tally_after own)) before → own ≡ tally → all_of after ≡ map (tally_after tally)
    (all_of before)
tallied-after tally own before after after_is own_is = ap all_of (after_is ∙ ap (λ (t : List StructTally). map (map (tally_after t)) before) own_is) ∙ all-map (tally_after tally) before

module _ (published : List PublishedModule) (call : Call) (stored new : List FlatEntry) (before after : List Tally) where
  abbrev modules : List Module
  modules = tables_in published

  -- a ledger after so many runs with this storage and these tallies
  abbrev after_runs : ℕ → Storage → List Tallied → LedgerState
  after_runs runs storage tallies = record { published = published; storage = storage; tallies = tallies; runs = runs + 1 }

  -- what is told, and the ledger after it
  abbrev telling : Told → LedgerState → Option (Told × LedgerState)
  telling t s = Some (t, s)

  told_as : (t u : Told) (s x : LedgerState) → t ≡ u → s ≡ x → telling u x ≡ telling t s
  told_as t u s x p q = ap₂ telling (sym p) (sym q)

  -- a run that returned leaves its storage, and the tallies with its own
  pub applied-returned : (outcome : Outcome) (tally : List StructTally) (layers : Layers) → All (IsNamed modules) before → Agrees modules (run_of published stored call) outcome tally layers → outcome.ending ≡ HasReturned
      → new ≡ layers.current → after ≡ map (tally_after tally) before → IsApplied published call (told (Ran outcome)) stored new before after
  applied-returned outcome tally layers named agrees ended new_is after_is = λ runs. by_outcome runs (run_of published stored call) agrees
    where
      by_outcome : (runs : ℕ) (o : RunOutcome) → Agrees modules o outcome tally layers
          → applied (state_of (view_of published stored before runs)) o ≡ Some (told_ending outcome.ending outcome.steps, state_of (view_of published new after (runs + 1)))
      by_outcome runs (Returned steps storage events) h =
          told_as _ _ _ _ (ap (λ (x : Outcome). told_ending x.ending x.steps) h.0)
          (ap₂ (after_runs runs) (ap (storage_of modules) new_is ∙ sym h.1) (ap (map (tallied modules)) after_is ∙ tallies-after published tally events before named h.2))
      by_outcome runs (Aborted kind n steps) h = let clash : HasAborted kind n ≡ HasReturned = sym (ap (λ (x : Outcome). x.ending) h) ∙ ended in absurd cc
      by_outcome runs (Exhausted stop steps) h = let clash : HasExhausted stop ≡ HasReturned = sym (ap (λ (x : Outcome). x.ending) h) ∙ ended in absurd cc
      by_outcome runs (Faulted fault steps) h = absurd h

  -- any other leaves both as they were
  pub applied-kept : (outcome : Outcome) (tally : List StructTally) (layers : Layers) → Agrees modules (run_of published stored call) outcome tally layers → (outcome.ending ≡ HasReturned → ⊥)
      → new ≡ stored → after ≡ before → IsApplied published call (told (Ran outcome)) stored new before after
  applied-kept outcome tally layers agrees goes_on new_is after_is = λ runs. by_outcome runs (run_of published stored call) agrees
    where
      same : (runs : ℕ) → after_runs runs (storage_of modules new) (map (tallied modules) after) ≡ after_runs runs (storage_of modules stored) (map (tallied modules) before)
      same runs = ap₂ (after_runs runs) (ap (storage_of modules) new_is) (ap (map (tallied modules)) after_is)

      by_outcome : (runs : ℕ) (o : RunOutcome) → Agrees modules o outcome tally layers
          → applied (state_of (view_of published stored before runs)) o ≡ Some (told_ending outcome.ending outcome.steps, state_of (view_of published new after (runs + 1)))
      by_outcome runs (Returned steps storage events) h = absurd (goes_on (ap (λ (x : Outcome). x.ending) h.0))
      by_outcome runs (Aborted kind n steps) h = told_as _ _ _ _ (ap (λ (x : Outcome). told_ending x.ending x.steps) h) (same runs)
      by_outcome runs (Exhausted stop steps) h = told_as _ _ _ _ (ap (λ (x : Outcome). told_ending x.ending x.steps) h) (same runs)
      by_outcome runs (Faulted fault steps) h = absurd h

-- a run that doesn't return leaves storage and tallies
pub runs-to : (outcome : Outcome) (old new : List FlatEntry) (before after : List Tally) → ((outcome.ending ≡ HasReturned → ⊥) → (new ≡ old) × (after ≡ before))
    → RunsTo (told (Ran outcome)) old new before after
runs-to outcome old new before after = by_ending outcome.ending
  where
    by_ending : (e : Ending) → ((e ≡ HasReturned → ⊥) → (new ≡ old) × (after ≡ before)) → RunsTo (Some (told_ending e outcome.steps)) old new before after
    by_ending HasReturned h = tt
    by_ending (HasAborted kind n) h = h (λ e. cc)
    by_ending (HasExhausted stop) h = h (λ e. cc)
