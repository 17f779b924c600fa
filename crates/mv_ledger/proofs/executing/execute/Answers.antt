use Rattle.mv_ledger.proofs.Common.{◌+◌, ◌-◌, ◌^◌, ◌∙◌, ◌≡◌, List, ap, map, refl, rules, subst, sym, All, StructTally, Layers, FlatEntry, tables_in, Agrees, AtMost, IsFineWords, run_of, tally_after}
use Rattle.mv_ledger.proofs.Common.{IsSmall, PublishedView, all_of, Tally}
use Rattle.mv_machine.specs.declared.Ending.TheVariants.{Returned}
use Rattle.mv_ledger.proofs.Runs.StoredRuns.{tallied-after, applied-returned, applied-kept, small-kept, runs-to}
use Rattle.mv_ledger_state.proofs.Runs.TalliesAfter.{most-after, small-after}
use Rattle.mv_ledger_state.proofs.TalliedStores.{tallied-named}
use Rattle.mv_ledger.proofs.executing.execute.Goals as goal
use Rattle.mv_ledger.proofs.executing.execute.Goals.{In-Ok, then-eq, else-eq}

-- what the run left
abbrev layers-of : In-Ok → Layers
layers-of c = record { committed = c.args.storage.now.committed; current = c.run_over.new.storage.committed; marks = c.args.storage.now.marks }

-- it is the machine's run over the modules
machine-of : (c : In-Ok) → Agrees (tables_in c.args.published.now.modules) (run_of c.args.published.now.modules c.args.storage.now.committed c.args.call.now) c.in-Ok.outcome c.in-Ok.tally.items (layers-of c)
machine-of c = c.in-Ok.ensures.machine

pub add_run-requires-clause-few : goal.add_run-requires-clause-few
add_run-requires-clause-few c =
    subst (λ (run : List StructTally). AtMost (2 ^ 64 - 1) run) (sym c.deref.ensures.value)
    (most-after c.args.call.now.budget c.in-Ok.tally.items c.in-Ok.ensures.few c.requires.budget).1

pub returns-in-Err-Memory-clause-stored : goal.returns-in-Err-Memory-clause-stored
returns-in-Err-Memory-clause-stored c =
    let e : c.run_over.new.storage.committed ≡ c.args.storage.now.committed = rw c.in-Err-Memory.is at c.run_over.ensures.err in
    subst (λ (z : List FlatEntry). All (IsFineWords (tables_in c.args.published.now.modules)) z) (sym e) c.requires.stored

pub returns-in-Err-Memory-clause-kept : goal.returns-in-Err-Memory-clause-kept
returns-in-Err-Memory-clause-kept c =
    let e : c.run_over.new.storage.committed ≡ c.args.storage.now.committed = rw c.in-Err-Memory.is at c.run_over.ensures.err in
    (e, ap all_of c.run_over.ensures.tallies)

pub returns-after-eq-clause-modules : goal.returns-after-eq-clause-modules
returns-after-eq-clause-modules c =
    elim c.if-eq.branch [
      | then-eq w ↦ ap (λ (p : PublishedView). p.modules) w.published-is ∙ w.add_run.ensures.modules ∙ c.run_over.ensures.modules
      | else-eq w ↦ ap (λ (p : PublishedView). p.modules) w.published-is ∙ c.run_over.ensures.modules
    ]

pub returns-after-eq-clause-small : goal.returns-after-eq-clause-small
returns-after-eq-clause-small c = λ runs small.
    elim c.if-eq.branch [
      | then-eq w ↦
          let after : all_of c.if-eq.published.tallies ≡ map (tally_after c.in-Ok.tally.items) (all_of c.args.published.now.tallies) =
          ap (λ (p : PublishedView). all_of p.tallies) w.published-is
          ∙ tallied-after c.in-Ok.tally.items w.deref.result.now c.run_over.new.published.tallies w.add_run.new.self.tallies w.add_run.ensures.tallies w.deref.ensures.value
          ∙ ap (λ (tss : List (List Tally)). map (tally_after c.in-Ok.tally.items) (all_of tss)) c.run_over.ensures.tallies in
          subst (λ (ts : List Tally). All (IsSmall (runs + 1)) ts) (sym after)
          (small-after runs c.in-Ok.tally.items (all_of c.args.published.now.tallies) (most-after c.args.call.now.budget c.in-Ok.tally.items c.in-Ok.ensures.few c.requires.budget).0 small)
      | else-eq w ↦
          subst (λ (tss : List (List Tally)). All (IsSmall (runs + 1)) (all_of tss)) (sym (ap (λ (p : PublishedView). p.tallies) w.published-is ∙ c.run_over.ensures.tallies))
          (small-kept runs (all_of c.args.published.now.tallies) small)
    ]

pub returns-after-eq-clause-stored : goal.returns-after-eq-clause-stored
returns-after-eq-clause-stored c = rw c.keep_tally.ensures.same c.in-Ok.ensures.fine

pub returns-after-eq-clause-storage_marks : goal.returns-after-eq-clause-storage_marks
returns-after-eq-clause-storage_marks c = rw c.keep_tally.ensures.same c.run_over.ensures.storage_marks

pub returns-after-eq-clause-applied : goal.returns-after-eq-clause-applied
returns-after-eq-clause-applied c =
    let here = (goal.at.returns-after-eq-clause-applied c).In-Ok in
    let old = c.args.published.now in
    rw c.keep_tally.ensures.same (elim c.if-eq.branch [
      | then-eq w ↦
          let after : all_of c.if-eq.published.tallies ≡ map (tally_after c.in-Ok.tally.items) (all_of c.args.published.now.tallies) =
          ap (λ (p : PublishedView). all_of p.tallies) w.published-is
          ∙ tallied-after c.in-Ok.tally.items w.deref.result.now c.run_over.new.published.tallies w.add_run.new.self.tallies w.add_run.ensures.tallies w.deref.ensures.value
          ∙ ap (λ (tss : List (List Tally)). map (tally_after c.in-Ok.tally.items) (all_of tss)) c.run_over.ensures.tallies in
          let ended : c.in-Ok.outcome.ending ≡ Returned = search rules in
          applied-returned old.modules c.args.call.now c.args.storage.now.committed c.run_over.new.storage.committed (all_of old.tallies) (all_of c.if-eq.published.tallies) c.in-Ok.outcome
          c.in-Ok.tally.items (layers-of here) (tallied-named _ _ c.is_tallied.ensures) (machine-of here) ended refl after
      | else-eq w ↦
          let other : c.in-Ok.outcome.ending ≡ Returned → ⊥ = search rules in
          applied-kept old.modules c.args.call.now c.args.storage.now.committed c.run_over.new.storage.committed (all_of old.tallies) (all_of c.if-eq.published.tallies) c.in-Ok.outcome
          c.in-Ok.tally.items (layers-of here) (machine-of here) other (c.in-Ok.ensures.other other)
          (ap (λ (p : PublishedView). all_of p.tallies) w.published-is ∙ ap all_of c.run_over.ensures.tallies)
    ])

pub returns-after-eq-clause-kept : goal.returns-after-eq-clause-kept
returns-after-eq-clause-kept c =
    rw c.keep_tally.ensures.same (elim c.if-eq.branch [
      | then-eq w ↦ let ended : c.in-Ok.outcome.ending ≡ Returned = search rules in runs-to c.in-Ok.outcome _ _ _ _ (λ other. absurd (other ended))
      | else-eq w ↦
          let other : c.in-Ok.outcome.ending ≡ Returned → ⊥ = search rules in
          runs-to c.in-Ok.outcome _ _ _ _ (λ _. (c.in-Ok.ensures.other other, ap (λ (p : PublishedView). all_of p.tallies) w.published-is ∙ ap all_of c.run_over.ensures.tallies))
    ])
