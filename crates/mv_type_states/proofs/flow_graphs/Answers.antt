use Rattle.mv_type_states.proofs.Common.{◌∙◌, ◌≡◌, ap, arith, length, sym, true, err_from_is_err_and, is_ok}
use Rattle.mv_type_rules.proofs.Functions.{flow_refused, AreGraphs-push}
use Rattle.mv_type_states.proofs.flow_graphs.Goals as goal

pub returns-in_err-graph-clause-refused : goal.returns-in_err-graph-clause-refused
returns-in_err-graph-clause-refused c =
    let p = err_from_is_err_and c.from_residual-in_err-graph.result c.from_residual-in_err-graph.ensures.1 in
    let functions = c.functions-count.ensures.value ∙ ap (λ m. m.functions) c.module.ensures.value in
    rw (p.1, p.2) (flow_refused c.args.m.now c.loop-f.f _ (omega (arith, ap length functions)) c.in_err-graph.ensures.refused)

pub loop-f-preserved : goal.loop-f-preserved
loop-f-preserved c =
    let ok : is_ok c.push.result ≡ true = sym c.map_err.ensures.variant ∙ ap is_ok c.in_ok-map_err.was in
    let functions = c.functions-count.ensures.value ∙ ap (λ m. m.functions) c.module.ensures.value in
    rw (c.push.ensures.items, ok)
    (AreGraphs-push c.args.m.now.functions c.loop-f.f c.loop-f.graphs.items c.in_ok-graph.graph c.loop-f.invariant (omega (arith, ap length functions)) c.in_ok-graph.ensures.ok)
