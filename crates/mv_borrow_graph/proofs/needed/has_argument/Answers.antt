use Rattle.std.proofs.Common.{sym, ◌∙◌}
use Rattle.mv_borrow_graph.proofs.Free.{argument_at, none_at}
use Rattle.mv_borrow_graph.proofs.needed.has_argument.Goals as goal

pub returns-in-Some-argument : goal.returns-in-Some-argument
returns-in-Some-argument c =
    c.is_mutable_reference.ensures
    ∙ sym (argument_at c.args.place c.args.first c.in-Some.i c.args.parameters.now c.in-Some.ensures.0 c.in-Some.ensures.1 c.in-Some-argument.token (sym c.argument.ensures ∙ c.in-Some-argument.is))

pub returns-in-None : goal.returns-in-None
returns-in-None c =
    sym (none_at c.args.place c.args.first c.in-Some.i c.args.parameters.now c.in-Some.ensures.0 c.in-Some.ensures.1 (sym c.argument.ensures ∙ c.in-None.is))
