use Rattle.std.proofs.Common.{◌≡◌, ℕ, List, map, sym, ap, ◌∙◌, subst, Some, Result, Err, refl}
use Rattle.mv_machine.specs.declared.Outcome.{Outcome}
use Rattle.mv_frames.specs.{FlatState.FlatEvent, FlatState.FlatStorage, Counters.counts_in}
use Rattle.mv_lowering.specs.Linked.{width_of_others}
use Rattle.mv_link_rules.specs.Link.{tables_in}
use Rattle.mv_machine.specs.declared.Arg.{Arg}
use Rattle.mv_interpreter.specs.{declared.linked.Cut.Cut, declared.linked.Cut.TheVariants.Stuck as IsStuck, Bodies.program, Ends.outcome_of, Ends.EndsWith}
use Rattle.mv_interpreter.specs.{Flat.FlatRun.FlatOutcome, Flat.FlatRun.FlatStuck, Flat.FlatRun.flat_run}
use Rattle.mv_interpreter.proofs.Counting.{tallied-most}
use Rattle.mv_interpreter.proofs.Joined.{others_there, run_agrees, run_leaves, never_stuck}
use Rattle.mv_interpreter.proofs.run_in.Goals as goal

-- a run that is cut as stuck is a stuck one
ends-stuck : (out : FlatOutcome) (result : Result Outcome Cut) (storage : FlatStorage) (events : List FlatEvent) → result ≡ Err IsStuck → EndsWith out result storage events → out ≡ FlatStuck
ends-stuck out result storage events e h = subst (λ (r : Result Outcome Cut). EndsWith out r storage events) e h

pub unreachable-requires : goal.unreachable-requires
unreachable-requires c =
    others_there c.args.s.now c.codes-codes.ensures.store c.codes-codes.ensures.few c.args.o.now.storage.now.current c.requires.stored c.args.f c.args.args.now c.requires.call
    (sym c.others.ensures ∙ c.in_default.is)

pub returns-in-Ok-clause-machine : goal.returns-in-Ok-clause-machine
returns-in-Ok-clause-machine c =
    let known : width_of_others (tables_in c.args.s.now) c.args.f ≡ Some c.in-Some.others = sym c.others.ensures ∙ c.in-Some.is in
    let words : c.in_ok-locals.locals ≡ map (λ (a : Arg). a.number) c.args.args.now = c.in_ok-locals.ensures in
    let ran = c.in-Ok.ensures.runs (tables_in c.args.s.now) known in
    let out : FlatOutcome = outcome_of c.in-Ok.outcome.ending c.in-Ok.outcome.steps c.run_linked-ended.new.o.storage.now.current ran.1 in
    let runs : flat_run (tables_in c.args.s.now) (program c.codes-codes.result.now) ran.0 c.args.o.now.storage.now.current c.args.f (map (λ (a : Arg). a.number) c.args.args.now) c.args.budget ≡ out =
    ap (λ (ws : List ℕ). flat_run (tables_in c.args.s.now) (program c.codes-codes.result.now) ran.0 c.args.o.now.storage.now.current c.args.f ws c.args.budget) (sym words) ∙ ran.2 in
    run_agrees c.args.s.now c.codes-codes.ensures.store c.codes-codes.ensures.few c.args.o.now.storage.now.current c.requires.stored c.args.f c.args.args.now c.requires.call
    c.args.budget (program c.codes-codes.result.now) ran.0 c.codes-codes.ensures.code out runs c.in-Ok.outcome ran.1 (counts_in c.run_linked-ended.new.counters) c.into_tally.result.items c.run_linked-ended.new.o.storage.now
    refl ran.3 c.into_tally.ensures.tallied

pub returns-in-Ok-clause-fine : goal.returns-in-Ok-clause-fine
returns-in-Ok-clause-fine c =
    let known : width_of_others (tables_in c.args.s.now) c.args.f ≡ Some c.in-Some.others = sym c.others.ensures ∙ c.in-Some.is in
    let words : c.in_ok-locals.locals ≡ map (λ (a : Arg). a.number) c.args.args.now = c.in_ok-locals.ensures in
    let ran = c.in-Ok.ensures.runs (tables_in c.args.s.now) known in
    let out : FlatOutcome = outcome_of c.in-Ok.outcome.ending c.in-Ok.outcome.steps c.run_linked-ended.new.o.storage.now.current ran.1 in
    let runs : flat_run (tables_in c.args.s.now) (program c.codes-codes.result.now) ran.0 c.args.o.now.storage.now.current c.args.f (map (λ (a : Arg). a.number) c.args.args.now) c.args.budget ≡ out =
    ap (λ (ws : List ℕ). flat_run (tables_in c.args.s.now) (program c.codes-codes.result.now) ran.0 c.args.o.now.storage.now.current c.args.f ws c.args.budget) (sym words) ∙ ran.2 in
    λ ended. run_leaves c.args.s.now c.codes-codes.ensures.store c.codes-codes.ensures.few c.args.o.now.storage.now.current c.requires.stored c.args.f c.args.args.now c.requires.call
    c.args.budget (program c.codes-codes.result.now) ran.0 c.codes-codes.ensures.code out runs c.in-Ok.outcome ran.1 c.run_linked-ended.new.o.storage.now.current refl ended

pub returns-in-Ok-clause-few : goal.returns-in-Ok-clause-few
returns-in-Ok-clause-few c = tallied-most c.args.budget c.into_tally.result.items (counts_in c.run_linked-ended.new.counters) c.into_tally.ensures.tallied c.in-Ok.ensures.few

pub unreachable-requires-in-Err-Stuck : goal.unreachable-requires-in-Err-Stuck
unreachable-requires-in-Err-Stuck c =
    let known : width_of_others (tables_in c.args.s.now) c.args.f ≡ Some c.in-Some.others = sym c.others.ensures ∙ c.in-Some.is in
    let words : c.in_ok-locals.locals ≡ map (λ (a : Arg). a.number) c.args.args.now = c.in_ok-locals.ensures in
    let ran = c.run_linked-ended.ensures.runs (tables_in c.args.s.now) known in
    let stuck : c.in-Err-Stuck.field-0 ≡ IsStuck = rw c.in-Err-Stuck.is at c.in-Err-Stuck.field-0-is in
    let was : c.run_linked-ended.result ≡ Err IsStuck = rw (c.in-Err-Stuck.is, stuck) refl in
    let runs : flat_run (tables_in c.args.s.now) (program c.codes-codes.result.now) ran.0 c.args.o.now.storage.now.current c.args.f (map (λ (a : Arg). a.number) c.args.args.now) c.args.budget ≡ FlatStuck =
    ap (λ (ws : List ℕ). flat_run (tables_in c.args.s.now) (program c.codes-codes.result.now) ran.0 c.args.o.now.storage.now.current c.args.f ws c.args.budget) (sym words)
    ∙ ends-stuck _ c.run_linked-ended.result c.run_linked-ended.new.o.storage.now.current ran.1 was ran.2 in
    never_stuck c.args.s.now c.codes-codes.ensures.store c.codes-codes.ensures.few c.args.o.now.storage.now.current c.requires.stored c.args.f c.args.args.now c.requires.call
    c.args.budget (program c.codes-codes.result.now) ran.0 c.codes-codes.ensures.code FlatStuck runs refl
