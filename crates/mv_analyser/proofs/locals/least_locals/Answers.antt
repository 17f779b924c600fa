use Rattle.std.proofs.Common.{◌≡◌, ℕ, ◌++◌, ◌∷◌, [], ap, arith, rules}
use Rattle.std.proofs.lemmas.Grind.{common_steps}
use Rattle.mv_certificate_rules.specs.Certificate.{Stated}
use Rattle.mv_certificate.specs.Functions.{LocalsHoldAt}
use Rattle.mv_certificate.specs.Reads.{FitsAt}
use Rattle.mv_certificate.proofs.Lists.{lists, lists-more}
use Rattle.mv_analyser.specs.Least.{HasLeastLocals}
use Rattle.mv_analyser.specs.Principal.{FindsLocals, IsUnproved}
use Rattle.mv_analyser.proofs.Modules.{up_to_none, up_to_more, all_fit, all_hold, unproved_locals, before_none, before_more, before_all}
use Rattle.mv_analyser.proofs.locals.least_locals.Goals as goal

pub loop-f-init : goal.loop-f-init
loop-f-init c = record {
  states = up_to_none (λ k s. FitsAt c.args.m.now k s × (LocalsHoldAt c.args.m.now k s × HasLeastLocals c.args.m.now k s)) (lists c.new-functions.result.items) (ap lists c.new-functions.ensures.items);
  found = before_none (FindsLocals c.args.m.now);
}

pub loop-f-preserved : goal.loop-f-preserved
loop-f-preserved c =
    let pushed : c.push.new.self.items ≡ c.loop-f.functions.items ++ c.in_ok-stated.stated ∷ [] = grind (arith, common_steps) in
    record {
      states = up_to_more (λ k s. FitsAt c.args.m.now k s × (LocalsHoldAt c.args.m.now k s × HasLeastLocals c.args.m.now k s)) c.loop-f.f (lists c.loop-f.functions.items) (lists c.push.new.self.items) c.in_ok-stated.stated.items (lists-more c.loop-f.functions.items c.push.new.self.items c.in_ok-stated.stated pushed)
          (c.in_ok-stated.ensures.fits, (c.in_ok-stated.ensures.holds, c.in_ok-stated.ensures.least)) c.loop-f.invariant.states;
      found = before_more (FindsLocals c.args.m.now) c.loop-f.f c.loop-f.invariant.found c.in_ok-stated.ensures.found;
    }

pub returns-in_err-stated-clause-refused : goal.returns-in_err-stated-clause-refused
returns-in_err-stated-clause-refused c =
    let refused : IsUnproved c.args.m.now c.in_err-stated.field-0.0 =
    unproved_locals c.args.m.now c.loop-f.f (omega (arith, c.function_count-count.ensures, c.loop-f-test.true)) c.in_err-stated.field-0.0 c.in_err-stated.ensures.refused c.in_err-stated.ensures.ends c.loop-f.invariant.found in
    search (rules, refused)

pub returns-clause-shape : goal.returns-clause-shape
returns-clause-shape c =
    let P : ℕ → Stated → Type 0 = λ k s. FitsAt c.args.m.now k s × (LocalsHoldAt c.args.m.now k s × HasLeastLocals c.args.m.now k s) in
    all_fit c.args.m.now P c.loop-f.f (lists c.loop-f.functions.items) c.loop-f.invariant.states (omega (arith, c.function_count-count.ensures, c.loop-f-test.false, c.loop-f.auto.f-end)) (λ k s p. p.0)

pub returns-clause-holds : goal.returns-clause-holds
returns-clause-holds c =
    let P : ℕ → Stated → Type 0 = λ k s. FitsAt c.args.m.now k s × (LocalsHoldAt c.args.m.now k s × HasLeastLocals c.args.m.now k s) in
    all_hold c.args.m.now P c.loop-f.f (lists c.loop-f.functions.items) c.loop-f.invariant.states (omega (arith, c.function_count-count.ensures, c.loop-f-test.false, c.loop-f.auto.f-end)) (λ k s p. p.1.0)

pub returns-clause-least : goal.returns-clause-least
returns-clause-least c = λ f s e. (c.loop-f.invariant.states.each f s e).1.1

pub returns-clause-found : goal.returns-clause-found
returns-clause-found c = before_all (FindsLocals c.args.m.now) c.loop-f.f _ (omega (arith, c.function_count-count.ensures, c.loop-f-test.false, c.loop-f.auto.f-end)) c.loop-f.invariant.found
