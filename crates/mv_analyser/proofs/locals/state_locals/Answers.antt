use Rattle.std.proofs.Common.{List, Option, sym, subst, ⊎_elim}
use Rattle.mv_move_types.specs.declared.borrow.Availability.{Availability}
use Rattle.mv_lattice.specs.Search.{EndsWith, MeetsNeed}
use Rattle.mv_certificate_rules.specs.Certificate.{Stated}
use Rattle.mv_certificate.specs.Functions.{LocalsHoldAt}
use Rattle.mv_certificate.specs.Reads.{FitsAt}
use Rattle.mv_certificate.proofs.States.{graph-at}
use Rattle.mv_analyser.specs.Principal.{FailsLocals}
use Rattle.mv_analyser.specs.States.{EndsLocals, IsErrorAt}
use Rattle.mv_analyser.proofs.Chains.{few_rises}
use Rattle.mv_analyser.proofs.LeastLocals.{least_fits, least_holds, least_of_all, none_holds, few_locals, locals_end, search_error}
use Rattle.mv_analyser.proofs.locals.state_locals.Goals as goal

pub solve-requires-clause-graph : goal.solve-requires-clause-graph
solve-requires-clause-graph c =
    graph-at c.args.m.now c.args.f c.function_at-function.result.now c.in_ok-domain.domain.function c.graph_of-graph.result.now
    c.function_at-function.ensures.at c.in_ok-domain.ensures.function c.graph_of-graph.ensures

pub search_is_least-requires-clause-graph : goal.search_is_least-requires-clause-graph
search_is_least-requires-clause-graph c =
    graph-at c.args.m.now c.args.f c.function_at-function.result.now c.in_ok-domain.domain.function c.graph_of-graph.result.now
    c.function_at-function.ensures.at c.in_ok-domain.ensures.function c.graph_of-graph.ensures

pub returns-in-Ok-clause-fits : goal.returns-in-Ok-clause-fits
returns-in-Ok-clause-fits c =
    least_fits c.args.m.now c.in_ok-domain.domain.home c.args.f c.function_at-function.result.now c.in_ok-domain.domain.function c.graph_of-graph.result.now
    c.in_ok-domain.ensures.home c.function_at-function.ensures.at c.in_ok-domain.ensures.function c.graph_of-graph.ensures c.function_at-function.ensures.typed c.in_ok-start.start c.in_ok-start.ensures.start
    c.in-Ok.least.items c.in_ok-alone-in-Ok.field-0.items c.in_ok-alone-in-Ok.ensures (c.search_is_least.ensures.found c.in-Ok.least.items c.in-Ok.ensures.ends).flow_is

pub returns-in-Ok-clause-holds : goal.returns-in-Ok-clause-holds
returns-in-Ok-clause-holds c =
    least_holds c.args.m.now c.in_ok-domain.domain.home c.args.f c.function_at-function.result.now c.in_ok-domain.domain.function c.graph_of-graph.result.now
    c.in_ok-domain.ensures.home c.function_at-function.ensures.at c.in_ok-domain.ensures.function c.graph_of-graph.ensures c.function_at-function.ensures.typed c.in_ok-start.start c.in_ok-start.ensures.start
    c.in-Ok.least.items c.in_ok-alone-in-Ok.field-0.items c.in_ok-alone-in-Ok.ensures (c.search_is_least.ensures.found c.in-Ok.least.items c.in-Ok.ensures.ends).flow_is (c.search_is_least.ensures.found c.in-Ok.least.items c.in-Ok.ensures.ends).closed

pub returns-in-Ok-clause-least : goal.returns-in-Ok-clause-least
returns-in-Ok-clause-least c =
    least_of_all c.args.m.now c.in_ok-domain.domain.home c.args.f c.function_at-function.result.now c.in_ok-domain.domain.function c.graph_of-graph.result.now
    c.in_ok-domain.ensures.home c.function_at-function.ensures.at c.in_ok-domain.ensures.function c.graph_of-graph.ensures c.function_at-function.ensures.typed c.in_ok-start.start c.in_ok-start.ensures.start
    c.in-Ok.least.items c.in_ok-alone-in-Ok.field-0.items c.in_ok-alone-in-Ok.ensures (c.search_is_least.ensures.found c.in-Ok.least.items c.in-Ok.ensures.ends).least

pub returns-clause-refused : goal.returns-clause-refused
returns-clause-refused c =
    subst (IsErrorAt c.args.m.now c.args.f 10 (LocalsHoldAt c.args.m.now c.args.f) ⊥) (sym c.error_in.ensures)
    (search_error 10 ((stated : Stated) → FitsAt c.args.m.now c.args.f stated → LocalsHoldAt c.args.m.now c.args.f stated → ⊥) ⊥ c.in-Err.e
    (λ h stated fits holds.
    none_holds c.args.m.now c.in_ok-domain.domain.home c.args.f c.function_at-function.result.now c.in_ok-domain.domain.function c.graph_of-graph.result.now
    c.in_ok-domain.ensures.home c.function_at-function.ensures.at c.in_ok-domain.ensures.function c.graph_of-graph.ensures c.function_at-function.ensures.typed c.in_ok-start.start c.in_ok-start.ensures.start
    (c.search_is_least.ensures.need (c.in-Err.ensures.fails h)) stated fits holds)
    (λ h.
    let few = few_locals c.args.m.now c.in_ok-domain.domain.home c.args.f c.function_at-function.result.now c.in_ok-domain.domain.function c.graph_of-graph.result.now
    c.in_ok-domain.ensures.home c.function_at-function.ensures.at c.in_ok-domain.ensures.function c.graph_of-graph.ensures c.function_at-function.ensures.typed c.in_ok-start.start c.in_ok-start.ensures.start c.function_at-function.ensures.small in
    ⊎_elim (λ large. large.1.1.1 tt) (few_rises c.in_ok-domain.domain.home c.in_ok-domain.domain.function few) (c.search_is_least.ensures.complex (c.in-Err.ensures.limit h))))

pub returns-in-Ok-clause-found : goal.returns-in-Ok-clause-found
returns-in-Ok-clause-found c =
    locals_end c.args.m.now c.in_ok-domain.domain.home c.args.f c.function_at-function.result.now c.in_ok-domain.domain.function c.graph_of-graph.result.now
    c.in_ok-domain.ensures.home c.function_at-function.ensures.at c.in_ok-domain.ensures.function c.graph_of-graph.ensures c.function_at-function.ensures.typed c.in_ok-start.start c.in_ok-start.ensures.start
    (λ o h s. (flow : List (Option (List Availability))) × EndsWith o h s flow) (c.in-Ok.least.items, c.in-Ok.ensures.ends)

pub returns-clause-ends : goal.returns-clause-ends
returns-clause-ends c =
    subst (EndsLocals c.args.m.now c.args.f) (sym c.error_in.ensures)
    (search_error 10 (FailsLocals c.args.m.now c.args.f) ⊥ c.in-Err.e
    (λ h.
    locals_end c.args.m.now c.in_ok-domain.domain.home c.args.f c.function_at-function.result.now c.in_ok-domain.domain.function c.graph_of-graph.result.now
    c.in_ok-domain.ensures.home c.function_at-function.ensures.at c.in_ok-domain.ensures.function c.graph_of-graph.ensures c.function_at-function.ensures.typed c.in_ok-start.start c.in_ok-start.ensures.start
    MeetsNeed (c.in-Err.ensures.fails h))
    (λ h.
    let few = few_locals c.args.m.now c.in_ok-domain.domain.home c.args.f c.function_at-function.result.now c.in_ok-domain.domain.function c.graph_of-graph.result.now
    c.in_ok-domain.ensures.home c.function_at-function.ensures.at c.in_ok-domain.ensures.function c.graph_of-graph.ensures c.function_at-function.ensures.typed c.in_ok-start.start c.in_ok-start.ensures.start c.function_at-function.ensures.small in
    ⊎_elim (λ large. large.1.1.1 tt) (few_rises c.in_ok-domain.domain.home c.in_ok-domain.domain.function few) (c.search_is_least.ensures.complex (c.in-Err.ensures.limit h))))
