use Rattle.mv_certificate.proofs.Common.{below_more, ◌∙◌, IsTrue, arith, rules, subst, sym, same_Some, slice_get_within, IsRefusedIn, all_edges_hold, EdgesHoldAt}
use Rattle.mv_certificate.proofs.States.{fit-length}
use Rattle.mv_certificate.proofs.Holds.{each-passes, passes-each}
use Rattle.mv_certificate.proofs.checking.try_edges.Goals as goal
use Rattle.mv_move_types.proofs.Refusals.{refused-wider}

pub loop-f-preserved : goal.loop-f-preserved
loop-f-preserved c =
    below_more _ c.loop-f.f c.loop-f.invariant
    (λ s e. subst (λ z. EdgesHoldAt c.args.m.now c.loop-f.f z) (same_Some c.stated_at-stated.result.now s (sym c.stated_at-stated.ensures.at ∙ e)) c.in_ok-check_edges_of.ensures.holds)

pub returns-clause-holds : goal.returns-clause-holds
returns-clause-holds c =
    each-passes _ c.args.m.now.functions c.args.c.now (fit-length c.args.m.now c.args.m.now.functions c.args.c.now c.requires)
    (λ f d s here there. c.loop-f.invariant f (omega (arith, slice_get_within c.args.m.now.functions f d here)) s there d here)

pub returns-in_err-check_edges_of-clause-refused : goal.returns-in_err-check_edges_of-clause-refused
returns-in_err-check_edges_of-clause-refused c =
    let refused : IsRefusedIn 11 (IsTrue (all_edges_hold c.args.m.now c.args.c.now)) c.in_err-check_edges_of.field-0.0 =
    refused-wider 11 (EdgesHoldAt c.args.m.now c.loop-f.f c.stated_at-stated.result.now) (IsTrue (all_edges_hold c.args.m.now c.args.c.now)) c.in_err-check_edges_of.field-0.0
    (λ all d here. passes-each _ c.args.m.now.functions c.args.c.now all c.loop-f.f d c.stated_at-stated.result.now here c.stated_at-stated.ensures.at) c.in_err-check_edges_of.ensures.refused in
    search (rules, refused)
