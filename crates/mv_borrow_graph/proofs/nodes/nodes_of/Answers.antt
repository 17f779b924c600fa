use Rattle.mv_certificate_rules.specs.BorrowRules.{reference_nodes}
use Rattle.mv_borrow_graph.specs.Domain.{is_picked}
use Rattle.mv_borrow_graph.proofs.Rows.{picked_more, picked_all}
use Rattle.mv_borrow_graph.proofs.nodes.nodes_of.Goals as goal

pub loop-i-preserved : goal.loop-i-preserved
loop-i-preserved c =
    picked_more (is_picked c.args.only_mutable) c.args.place c.loop-i.i c.args.tokens.now _ c.is_picked.result c.loop-i.nodes.items c.push_if.new.nodes.items
    (reference_nodes (is_picked c.args.only_mutable) c.args.place c.args.tokens.now) c.loop-i-test.true c.is_picked.ensures c.in_ok-push_if.ensures c.loop-i.invariant

pub returns : goal.returns
returns c =
    picked_all (is_picked c.args.only_mutable) c.args.place c.loop-i.i c.args.tokens.now c.loop-i.nodes.items
    (reference_nodes (is_picked c.args.only_mutable) c.args.place c.args.tokens.now) c.loop-i-test.false c.loop-i.invariant
