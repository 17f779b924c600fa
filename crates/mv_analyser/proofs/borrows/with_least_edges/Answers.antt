use Rattle.std.proofs.Common.{◌≡◌, ℕ, ◌++◌, ◌∷◌, [], length, ap, arith, rules}
use Rattle.std.proofs.lemmas.Grind.{common_steps}
use Rattle.mv_certificate_rules.specs.Certificate.{Stated}
use Rattle.mv_certificate.specs.Functions.{LocalsHoldAt, EdgesHoldAt}
use Rattle.mv_certificate.specs.Reads.{FitsAt}
use Rattle.mv_certificate.proofs.Lists.{lists, lists-more}
use Rattle.mv_analyser.specs.Least.{HasLeastLocals, HasLeastEdges}
use Rattle.mv_analyser.specs.Principal.{FindsEdges, IsUnproved}
use Rattle.mv_analyser.proofs.Modules.{up_to_none, up_to_more, all_fit, all_hold, all_edges, both_hold, unproved_edges, before_none, before_more}
use Rattle.mv_analyser.proofs.borrows.with_least_edges.Goals as goal

pub loop-f-init : goal.loop-f-init
loop-f-init c = record {
  states = up_to_none (λ k s. FitsAt c.args.m.now k s × (LocalsHoldAt c.args.m.now k s × (EdgesHoldAt c.args.m.now k s × (HasLeastLocals c.args.m.now k s × HasLeastEdges c.args.m.now k s)))) (lists c.new-functions.result.items)
      (ap lists c.new-functions.ensures.items);
  found = before_none (FindsEdges c.args.m.now);
}

pub loop-f-preserved : goal.loop-f-preserved
loop-f-preserved c =
    let pushed : c.push.new.self.items ≡ c.loop-f.functions.items ++ c.in_ok-with_edges.with_edges ∷ [] = grind (arith, common_steps) in
    record {
      states = up_to_more (λ k s. FitsAt c.args.m.now k s × (LocalsHoldAt c.args.m.now k s × (EdgesHoldAt c.args.m.now k s × (HasLeastLocals c.args.m.now k s × HasLeastEdges c.args.m.now k s)))) c.loop-f.f (lists c.loop-f.functions.items) (lists c.push.new.self.items) c.in_ok-with_edges.with_edges.items (lists-more c.loop-f.functions.items c.push.new.self.items c.in_ok-with_edges.with_edges pushed)
          (c.in_ok-with_edges.ensures.fits, (c.in_ok-with_edges.ensures.locals, (c.in_ok-with_edges.ensures.edges, (c.in_ok-with_edges.ensures.least_locals, c.in_ok-with_edges.ensures.least_edges)))) c.loop-f.invariant.states;
      found = before_more (FindsEdges c.args.m.now) c.loop-f.f c.loop-f.invariant.found c.in_ok-with_edges.ensures.found;
    }

pub returns-in_err-with_edges-clause-refused : goal.returns-in_err-with_edges-clause-refused
returns-in_err-with_edges-clause-refused c =
    let refused : IsUnproved c.args.m.now c.in_err-with_edges.field-0.0 =
    unproved_edges c.args.m.now c.loop-f.f (omega (arith, c.function_count-count.ensures, c.loop-f-test.true)) c.args.c.now c.requires.shape c.requires.locals c.requires.found c.in_err-with_edges.field-0.0 c.in_err-with_edges.ensures.refused
    c.in_err-with_edges.ensures.ends c.loop-f.invariant.found in
    search (rules, refused)

pub returns-clause-shape : goal.returns-clause-shape
returns-clause-shape c =
    let P : ℕ → Stated → Type 0 = λ k s. FitsAt c.args.m.now k s × (LocalsHoldAt c.args.m.now k s × (EdgesHoldAt c.args.m.now k s × (HasLeastLocals c.args.m.now k s × HasLeastEdges c.args.m.now k s))) in
    all_fit c.args.m.now P c.loop-f.f (lists c.loop-f.functions.items) c.loop-f.invariant.states (omega (arith, c.function_count-count.ensures, c.loop-f-test.false, c.loop-f.auto.f-end)) (λ k s p. p.0)

pub returns-clause-holds : goal.returns-clause-holds
returns-clause-holds c =
    let P : ℕ → Stated → Type 0 = λ k s. FitsAt c.args.m.now k s × (LocalsHoldAt c.args.m.now k s × (EdgesHoldAt c.args.m.now k s × (HasLeastLocals c.args.m.now k s × HasLeastEdges c.args.m.now k s))) in
    let count : c.loop-f.f ≡ length c.args.m.now.functions = omega (arith, c.function_count-count.ensures, c.loop-f-test.false, c.loop-f.auto.f-end) in
    both_hold c.args.m.now (lists c.loop-f.functions.items)
    (all_hold c.args.m.now P c.loop-f.f (lists c.loop-f.functions.items) c.loop-f.invariant.states count (λ k s p. p.1.0))
    (all_edges c.args.m.now P c.loop-f.f (lists c.loop-f.functions.items) c.loop-f.invariant.states count (λ k s p. p.1.1.0))

pub returns-clause-least : goal.returns-clause-least
returns-clause-least c = λ f s e. (c.loop-f.invariant.states.each f s e).1.1.1
