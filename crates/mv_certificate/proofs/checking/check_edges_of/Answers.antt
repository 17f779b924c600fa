use Rattle.std.proofs.Common.{◌∙◌}
use Rattle.mv_certificate.proofs.States.{graph-at, edges-flow-at}
use Rattle.mv_certificate.proofs.Holds.{edges_exact_at, refused_flow}
use Rattle.mv_certificate.proofs.checking.check_edges_of.Goals as goal

pub check_flow-requires-clause-graph : goal.check_flow-requires-clause-graph
check_flow-requires-clause-graph c =
    graph-at c.args.m.now c.args.f c.function_at-function.result.now c.of_function-domain.result.function c.graph_of-graph.result.now
    c.function_at-function.ensures.at c.of_function-domain.ensures.function c.graph_of-graph.ensures

pub check_flow-requires-clause-flow : goal.check_flow-requires-clause-flow
check_flow-requires-clause-flow c =
    edges-flow-at c.args.m.now c.of_function-domain.result.home c.args.f c.function_at-function.result.now c.of_function-domain.result.function c.graph_of-graph.result.now c.args.stated.now c.deref.result.now
    c.of_function-domain.ensures.home c.function_at-function.ensures.at c.of_function-domain.ensures.function c.graph_of-graph.ensures c.requires.fits (c.deref.ensures.value ∙ c.in_ok-states.ensures)

pub returns-in-Ok-clause-holds : goal.returns-in-Ok-clause-holds
returns-in-Ok-clause-holds c =
    (edges_exact_at c.args.m.now c.of_function-domain.result.home c.args.f c.function_at-function.result.now c.of_function-domain.result.function c.graph_of-graph.result.now c.args.stated.now
    c.of_function-domain.ensures.home c.function_at-function.ensures.at c.of_function-domain.ensures.function c.graph_of-graph.ensures c.function_at-function.ensures.typed
    c.start-empty.result c.deref.result.now c.start-empty.ensures c.has_start.ensures (c.deref.ensures.value ∙ c.in_ok-states.ensures)
    (edges-flow-at c.args.m.now c.of_function-domain.result.home c.args.f c.function_at-function.result.now c.of_function-domain.result.function c.graph_of-graph.result.now c.args.stated.now c.deref.result.now
    c.of_function-domain.ensures.home c.function_at-function.ensures.at c.of_function-domain.ensures.function c.graph_of-graph.ensures c.requires.fits (c.deref.ensures.value ∙ c.in_ok-states.ensures))).0 c.in-Ok.ensures.ok

pub returns-clause-refused : goal.returns-clause-refused
returns-clause-refused c =
    refused_flow 11 _ _ c.in-Err.e c.refusal_in.result
    ((edges_exact_at c.args.m.now c.of_function-domain.result.home c.args.f c.function_at-function.result.now c.of_function-domain.result.function c.graph_of-graph.result.now c.args.stated.now
    c.of_function-domain.ensures.home c.function_at-function.ensures.at c.of_function-domain.ensures.function c.graph_of-graph.ensures c.function_at-function.ensures.typed
    c.start-empty.result c.deref.result.now c.start-empty.ensures c.has_start.ensures (c.deref.ensures.value ∙ c.in_ok-states.ensures)
    (edges-flow-at c.args.m.now c.of_function-domain.result.home c.args.f c.function_at-function.result.now c.of_function-domain.result.function c.graph_of-graph.result.now c.args.stated.now c.deref.result.now
    c.of_function-domain.ensures.home c.function_at-function.ensures.at c.of_function-domain.ensures.function c.graph_of-graph.ensures c.requires.fits (c.deref.ensures.value ∙ c.in_ok-states.ensures))).1)
    c.in-Err.ensures.need c.refusal_in.ensures
