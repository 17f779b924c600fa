use Rattle.mv_type_states.proofs.Common.{◌<◌, ◌∙◌, ◌≡◌, ap, arith, length, map, sym, true, take_all, slice_get_within, err_from_is_err_and, is_ok, types_before, function_is_typed}
use Rattle.mv_type_rules.proofs.Functions.{types_refused, types_listed, graph-here, AreTyped-push}
use Rattle.mv_type_rules.proofs.Functions.{list_all-each}
use Rattle.mv_type_states.proofs.check_functions.Goals as goal

pub returns-in_err-all-clause-refused : goal.returns-in_err-all-clause-refused
returns-in_err-all-clause-refused c =
    let p = err_from_is_err_and c.from_residual-in_err-all.result c.from_residual-in_err-all.ensures.1 in
    rw (p.1, p.2) (types_refused c.args.m.now c.loop-f.f _ (omega arith) c.in_err-all.ensures.refused)

pub loop-f-preserved : goal.loop-f-preserved
loop-f-preserved c =
    let m = c.args.m.now in
    let f = c.loop-f.f in
    let below : f < length m.functions = let graphs = c.requires.entries in omega arith in
    let ok : is_ok c.push.result ≡ true = sym c.map_err.ensures.variant ∙ ap is_ok c.in_ok-map_err.was in
    record {
      typed = AreTyped-push m f c.loop-f.invariant.typed c.in_ok-all.ensures.ok;
      listed = rw (c.push.ensures.items, ok) (types_listed m f c.in_ok-all.all c.loop-f.stacks.items below c.in_ok-all.ensures.listed c.loop-f.invariant.listed);
    }

pub returns-clause-ok : goal.returns-clause-ok
returns-clause-ok c =
    list_all-each (function_is_typed c.args.m.now) c.args.m.now.functions
    (λ k d at. let within = slice_get_within c.args.m.now.functions k d at in c.loop-f.invariant.typed k d (omega arith) at)

pub returns-clause-listed : goal.returns-clause-listed
returns-clause-listed c =
    let m = c.args.m.now in
    let graphs = c.requires.entries in c.loop-f.invariant.listed ∙ ap (map (types_before m)) (take_all c.loop-f.f m.functions (omega arith))

pub check_function-requires-clause-function : goal.check_function-requires-clause-function
check_function-requires-clause-function c = omega (arith, c.requires.entries, c.loop-f-test.true)

pub check_function-requires-clause-graph : goal.check_function-requires-clause-graph
check_function-requires-clause-graph c =
    graph-here c.args.m.now.functions c.args.graphs.now c.loop-f.f c.index-graphs-f.result c.requires c.loop-f-test.true c.index-graphs-f.is
