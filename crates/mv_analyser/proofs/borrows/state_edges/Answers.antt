use Rattle.std.proofs.Common.{List, Option, sym, subst, ⊎_elim}
use Rattle.mv_lattice.specs.Search.{EndsWith, MeetsNeed, MeetsLimit}
use Rattle.mv_edges.specs.Edges.{Edge}
use Rattle.mv_certificate.proofs.States.{graph-at}
use Rattle.mv_certificate_rules.specs.Certificate.{Stated}
use Rattle.mv_certificate.specs.Functions.{EdgesHoldAt}
use Rattle.mv_certificate.specs.Reads.{FitsAt}
use Rattle.mv_analyser.specs.Principal.{FailsEdges, MeetsLimitAt}
use Rattle.mv_analyser.specs.States.{EndsEdges, IsErrorAt, IsComplexAt}
use Rattle.mv_analyser.proofs.Chains.{never_large, never_rises}
use Rattle.mv_analyser.proofs.LeastLocals.{search_error}
use Rattle.mv_analyser.proofs.LeastEdges.{graph_is, plain_locals, edges_fit, locals_stay, locals_stay_least, edges_are_least, edges_hold_there, no_edges_hold, edges_end}
use Rattle.mv_analyser.proofs.borrows.state_edges.Goals as goal

pub search_is_least-requires-clause-graph : goal.search_is_least-requires-clause-graph
search_is_least-requires-clause-graph c =
    graph-at c.args.m.now c.args.f c.function_at-function.result.now c.of_function-domain.result.function c.graph_of-graph.result.now
    c.function_at-function.ensures.at c.of_function-domain.ensures.function c.graph_of-graph.ensures

pub search_is_least-requires-clause-same : goal.search_is_least-requires-clause-same
search_is_least-requires-clause-same c =
    graph_is c.args.m.now c.of_function-domain.result.home c.args.f c.function_at-function.result.now c.of_function-domain.result.function c.graph_of-graph.result.now
    c.of_function-domain.ensures.home c.function_at-function.ensures.at c.of_function-domain.ensures.function c.graph_of-graph.ensures c.function_at-function.ensures.typed
    c.has_plain_fields.ensures.plain c.has_plain_fields.ensures.few

pub solve-requires-clause-graph : goal.solve-requires-clause-graph
solve-requires-clause-graph c =
    graph-at c.args.m.now c.args.f c.function_at-function.result.now c.of_function-domain.result.function c.graph_of-graph.result.now
    c.function_at-function.ensures.at c.of_function-domain.ensures.function c.graph_of-graph.ensures

pub solve-requires-clause-same : goal.solve-requires-clause-same
solve-requires-clause-same c =
    graph_is c.args.m.now c.of_function-domain.result.home c.args.f c.function_at-function.result.now c.of_function-domain.result.function c.graph_of-graph.result.now
    c.of_function-domain.ensures.home c.function_at-function.ensures.at c.of_function-domain.ensures.function c.graph_of-graph.ensures c.function_at-function.ensures.typed
    c.has_plain_fields.ensures.plain c.has_plain_fields.ensures.few

pub returns-in-Ok-clause-fits : goal.returns-in-Ok-clause-fits
returns-in-Ok-clause-fits c =
    edges_fit c.args.m.now c.of_function-domain.result.home c.args.f c.function_at-function.result.now c.of_function-domain.result.function c.graph_of-graph.result.now
    c.of_function-domain.ensures.home c.function_at-function.ensures.at c.of_function-domain.ensures.function c.graph_of-graph.ensures c.function_at-function.ensures.typed
    c.in-Ok.least.items c.args.stated.now c.in_ok-stated_and-in-Ok.field-0.items c.in_ok-stated_and-in-Ok.ensures c.requires.fits (c.search_is_least.ensures.found c.in-Ok.least.items c.in-Ok.ensures.ends).flow_is
    (c.search_is_least.ensures.found c.in-Ok.least.items c.in-Ok.ensures.ends).starts (c.search_is_least.ensures.found c.in-Ok.least.items c.in-Ok.ensures.ends).small

pub returns-in-Ok-clause-locals : goal.returns-in-Ok-clause-locals
returns-in-Ok-clause-locals c =
    locals_stay c.args.m.now c.of_function-domain.result.home c.args.f c.function_at-function.result.now c.of_function-domain.result.function c.graph_of-graph.result.now
    c.of_function-domain.ensures.home c.function_at-function.ensures.at c.of_function-domain.ensures.function c.graph_of-graph.ensures c.function_at-function.ensures.typed
    c.in-Ok.least.items c.args.stated.now c.in_ok-stated_and-in-Ok.field-0.items c.in_ok-stated_and-in-Ok.ensures c.requires.fits (c.search_is_least.ensures.found c.in-Ok.least.items c.in-Ok.ensures.ends).flow_is
    c.requires.locals

pub returns-in-Ok-clause-edges : goal.returns-in-Ok-clause-edges
returns-in-Ok-clause-edges c =
    edges_hold_there c.args.m.now c.of_function-domain.result.home c.args.f c.function_at-function.result.now c.of_function-domain.result.function c.graph_of-graph.result.now
    c.of_function-domain.ensures.home c.function_at-function.ensures.at c.of_function-domain.ensures.function c.graph_of-graph.ensures c.function_at-function.ensures.typed
    c.in-Ok.least.items c.args.stated.now c.in_ok-stated_and-in-Ok.field-0.items c.in_ok-stated_and-in-Ok.ensures c.requires.fits (c.search_is_least.ensures.found c.in-Ok.least.items c.in-Ok.ensures.ends).flow_is
    c.start-start.result c.start-start.ensures c.has_start.ensures (c.search_is_least.ensures.found c.in-Ok.least.items c.in-Ok.ensures.ends).closed

pub returns-in-Ok-clause-least_locals : goal.returns-in-Ok-clause-least_locals
returns-in-Ok-clause-least_locals c =
    locals_stay_least c.args.m.now c.of_function-domain.result.home c.args.f c.function_at-function.result.now c.of_function-domain.result.function c.graph_of-graph.result.now
    c.of_function-domain.ensures.home c.function_at-function.ensures.at c.of_function-domain.ensures.function c.graph_of-graph.ensures c.function_at-function.ensures.typed
    c.in-Ok.least.items c.args.stated.now c.in_ok-stated_and-in-Ok.field-0.items c.in_ok-stated_and-in-Ok.ensures c.requires.fits (c.search_is_least.ensures.found c.in-Ok.least.items c.in-Ok.ensures.ends).flow_is
    c.requires.least

pub returns-in-Ok-clause-least_edges : goal.returns-in-Ok-clause-least_edges
returns-in-Ok-clause-least_edges c =
    edges_are_least c.args.m.now c.of_function-domain.result.home c.args.f c.function_at-function.result.now c.of_function-domain.result.function c.graph_of-graph.result.now
    c.of_function-domain.ensures.home c.function_at-function.ensures.at c.of_function-domain.ensures.function c.graph_of-graph.ensures c.function_at-function.ensures.typed
    c.in-Ok.least.items c.args.stated.now c.in_ok-stated_and-in-Ok.field-0.items c.in_ok-stated_and-in-Ok.ensures c.requires.fits (c.search_is_least.ensures.found c.in-Ok.least.items c.in-Ok.ensures.ends).flow_is
    c.start-start.result c.start-start.ensures c.has_start.ensures (c.search_is_least.ensures.found c.in-Ok.least.items c.in-Ok.ensures.ends).least

pub returns-clause-refused : goal.returns-clause-refused
returns-clause-refused c =
    subst (IsErrorAt c.args.m.now c.args.f 11 (EdgesHoldAt c.args.m.now c.args.f) (IsComplexAt c.args.m.now c.args.f)) (sym c.error_in.ensures)
    (search_error 11 ((stated : Stated) → FitsAt c.args.m.now c.args.f stated → EdgesHoldAt c.args.m.now c.args.f stated → ⊥) (IsComplexAt c.args.m.now c.args.f) c.in-Err.e
    (λ h stated fits holds.
    no_edges_hold c.args.m.now c.of_function-domain.result.home c.args.f c.function_at-function.result.now c.of_function-domain.result.function c.graph_of-graph.result.now
    c.of_function-domain.ensures.home c.function_at-function.ensures.at c.of_function-domain.ensures.function c.graph_of-graph.ensures c.function_at-function.ensures.typed
    c.start-start.result c.start-start.ensures c.has_start.ensures (c.search_is_least.ensures.need (c.in-Err.ensures.fails h)) stated fits holds)
    (λ h. (
      λ simple.
          let plain = plain_locals c.args.m.now c.of_function-domain.result.home c.args.f c.function_at-function.result.now c.of_function-domain.result.function c.graph_of-graph.result.now
          c.of_function-domain.ensures.home c.function_at-function.ensures.at c.of_function-domain.ensures.function c.graph_of-graph.ensures c.function_at-function.ensures.typed simple in
          ⊎_elim (never_large c.of_function-domain.result.home c.of_function-domain.result.function plain) (never_rises c.of_function-domain.result.home c.of_function-domain.result.function plain) (c.search_is_least.ensures.complex (c.in-Err.ensures.limit h)),
      edges_end c.args.m.now c.of_function-domain.result.home c.args.f c.function_at-function.result.now c.of_function-domain.result.function c.graph_of-graph.result.now
          c.of_function-domain.ensures.home c.function_at-function.ensures.at c.of_function-domain.ensures.function c.graph_of-graph.ensures c.function_at-function.ensures.typed
          MeetsLimit c.start-start.result c.start-start.ensures (c.in-Err.ensures.limit h),
    )))

pub returns-in-Ok-clause-found : goal.returns-in-Ok-clause-found
returns-in-Ok-clause-found c =
    edges_end c.args.m.now c.of_function-domain.result.home c.args.f c.function_at-function.result.now c.of_function-domain.result.function c.graph_of-graph.result.now
    c.of_function-domain.ensures.home c.function_at-function.ensures.at c.of_function-domain.ensures.function c.graph_of-graph.ensures c.function_at-function.ensures.typed
    (λ o g s. (flow : List (Option (List Edge))) × EndsWith o g s flow) c.start-start.result c.start-start.ensures (c.in-Ok.least.items, c.in-Ok.ensures.ends)

pub returns-clause-ends : goal.returns-clause-ends
returns-clause-ends c =
    subst (EndsEdges c.args.m.now c.args.f) (sym c.error_in.ensures)
    (search_error 11 (FailsEdges c.args.m.now c.args.f) (MeetsLimitAt c.args.m.now c.args.f) c.in-Err.e
    (λ h.
    edges_end c.args.m.now c.of_function-domain.result.home c.args.f c.function_at-function.result.now c.of_function-domain.result.function c.graph_of-graph.result.now
    c.of_function-domain.ensures.home c.function_at-function.ensures.at c.of_function-domain.ensures.function c.graph_of-graph.ensures c.function_at-function.ensures.typed
    MeetsNeed c.start-start.result c.start-start.ensures (c.in-Err.ensures.fails h))
    (λ h.
    edges_end c.args.m.now c.of_function-domain.result.home c.args.f c.function_at-function.result.now c.of_function-domain.result.function c.graph_of-graph.result.now
    c.of_function-domain.ensures.home c.function_at-function.ensures.at c.of_function-domain.ensures.function c.graph_of-graph.ensures c.function_at-function.ensures.typed
    MeetsLimit c.start-start.result c.start-start.ensures (c.in-Err.ensures.limit h)))
