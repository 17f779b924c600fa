use Rattle.std.proofs.lemmas.Result.{IfOk-weaker}
use Rattle.mv_certificate.proofs.Functions.{function-at, function-unread}
use Rattle.mv_certificate.proofs.reading.read_function.Goals as goal

pub returns-clause-ok : goal.returns-clause-ok
returns-clause-ok c =
    IfOk-weaker c.read_stated.result _ _
    (λ v h. function-at c.args.m.now c.module-module.result.now c.args.f c.function_at-function.result.now c.graph_of-graph.result.now c.deref.result.now c.args.reader.now c.read_stated.new.reader v.items
    c.module-module.ensures.value c.deref.ensures.value c.has_few_structs.ensures c.function_at-function.ensures.small c.function_at-function.ensures.at c.graph_of-graph.ensures h)
    c.read_stated.ensures.ok

pub returns-clause-refused : goal.returns-clause-refused
returns-clause-refused c is =
    function-unread c.args.m.now c.module-module.result.now c.args.f c.function_at-function.result.now c.graph_of-graph.result.now c.deref.result.now c.args.reader.now
    c.module-module.ensures.value c.deref.ensures.value c.has_few_structs.ensures c.function_at-function.ensures.small c.function_at-function.ensures.at c.graph_of-graph.ensures (c.read_stated.ensures.refused is)
