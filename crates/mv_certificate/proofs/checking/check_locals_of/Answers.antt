use Rattle.std.proofs.Common.{◌∙◌}
use Rattle.mv_certificate.proofs.States.{graph-at, locals-flow-at}
use Rattle.mv_certificate.proofs.Holds.{locals_exact_at, refused_flow}
use Rattle.mv_certificate.proofs.checking.check_locals_of.Goals as goal

pub check_flow-requires-clause-graph : goal.check_flow-requires-clause-graph
check_flow-requires-clause-graph c =
    graph-at c.args.m.now c.args.f c.function_at-function.result.now c.in_ok-domain.domain.function c.graph_of-graph.result.now
    c.function_at-function.ensures.at c.in_ok-domain.ensures.function c.graph_of-graph.ensures

pub check_flow-requires-clause-flow : goal.check_flow-requires-clause-flow
check_flow-requires-clause-flow c =
    locals-flow-at c.args.m.now c.in_ok-domain.domain.home c.args.f c.function_at-function.result.now c.in_ok-domain.domain.function c.graph_of-graph.result.now c.args.stated.now c.deref.result.now
    c.in_ok-domain.ensures.home c.function_at-function.ensures.at c.in_ok-domain.ensures.function c.graph_of-graph.ensures c.requires.fits (c.deref.ensures.value ∙ c.in_ok-states.ensures)

pub returns-in-Ok-clause-holds : goal.returns-in-Ok-clause-holds
returns-in-Ok-clause-holds c =
    (locals_exact_at c.args.m.now c.in_ok-domain.domain.home c.args.f c.function_at-function.result.now c.in_ok-domain.domain.function c.graph_of-graph.result.now c.args.stated.now
    c.in_ok-domain.ensures.home c.function_at-function.ensures.at c.in_ok-domain.ensures.function c.graph_of-graph.ensures c.function_at-function.ensures.typed
    c.in_ok-start.start c.deref.result.now c.in_ok-start.ensures.start (c.deref.ensures.value ∙ c.in_ok-states.ensures)
    (locals-flow-at c.args.m.now c.in_ok-domain.domain.home c.args.f c.function_at-function.result.now c.in_ok-domain.domain.function c.graph_of-graph.result.now c.args.stated.now c.deref.result.now
    c.in_ok-domain.ensures.home c.function_at-function.ensures.at c.in_ok-domain.ensures.function c.graph_of-graph.ensures c.requires.fits (c.deref.ensures.value ∙ c.in_ok-states.ensures))).0 c.in-Ok.ensures.ok

pub returns-clause-refused : goal.returns-clause-refused
returns-clause-refused c =
    refused_flow 10 _ _ c.in-Err.e c.refusal_in.result
    ((locals_exact_at c.args.m.now c.in_ok-domain.domain.home c.args.f c.function_at-function.result.now c.in_ok-domain.domain.function c.graph_of-graph.result.now c.args.stated.now
    c.in_ok-domain.ensures.home c.function_at-function.ensures.at c.in_ok-domain.ensures.function c.graph_of-graph.ensures c.function_at-function.ensures.typed
    c.in_ok-start.start c.deref.result.now c.in_ok-start.ensures.start (c.deref.ensures.value ∙ c.in_ok-states.ensures)
    (locals-flow-at c.args.m.now c.in_ok-domain.domain.home c.args.f c.function_at-function.result.now c.in_ok-domain.domain.function c.graph_of-graph.result.now c.args.stated.now c.deref.result.now
    c.in_ok-domain.ensures.home c.function_at-function.ensures.at c.in_ok-domain.ensures.function c.graph_of-graph.ensures c.requires.fits (c.deref.ensures.value ∙ c.in_ok-states.ensures))).1)
    c.in-Err.ensures.need c.refusal_in.ensures
