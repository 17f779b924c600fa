use Rattle.std.proofs.Common.{Some, true, ◌&&◌}
use Rattle.std.specs.List.{list_any}
use Rattle.mv_edges.specs.Edges.{agrees, out_of, same_node}
use Rattle.mv_ways.specs.Between.{any_between}
use Rattle.mv_certificate_rules.specs.BorrowRules.{edges_after, field_edges, is_mutable, position_of, top_temp}
use Rattle.mv_borrow_graph.proofs.Between.{to_any_at, to_mutable_at}
use Rattle.mv_borrow_graph.proofs.Rows.{field_met}
use Rattle.mv_borrow_graph.proofs.site.Site.is_met.Goals as goal

pub returns-in-MutBorrowField : goal.returns-in-MutBorrowField
unfolding edges_after
returns-in-MutBorrowField c =
    rw c.in-MutBorrowField.is
    (field_met (position_of c.args.self.now c.in-MutBorrowField.field) c.is_field_free.result (λ f. any_between (λ n. same_node n (top_temp c.args.self.now)) (Some f) (λ n. true) c.args.s.now)
    (λ f. list_any (λ e. agrees f e.label) (out_of (top_temp c.args.self.now) c.args.s.now)) (λ f. field_edges c.args.self.now f c.args.s.now)
    (to_any_at c.args.self.now c.args.s.now (top_temp c.args.self.now)) c.is_field_free.ensures)

pub returns-in-ImmBorrowField : goal.returns-in-ImmBorrowField
unfolding edges_after
returns-in-ImmBorrowField c =
    rw c.in-ImmBorrowField.is
    (field_met (position_of c.args.self.now c.in-ImmBorrowField.field) c.is_field_free-in-ImmBorrowField.result
    (λ f. any_between (λ n. same_node n (top_temp c.args.self.now)) (Some f) (is_mutable c.args.self.now) c.args.s.now)
    (λ f. list_any (λ e. is_mutable c.args.self.now e.to && agrees f e.label) (out_of (top_temp c.args.self.now) c.args.s.now)) (λ f. field_edges c.args.self.now f c.args.s.now)
    (to_mutable_at c.args.self.now c.args.s.now (top_temp c.args.self.now)) c.is_field_free-in-ImmBorrowField.ensures)
