use Rattle.mv_bounds.proofs.Common.{ℕ, ◌∙◌, Bor, Global, List, Vec, ap, map, take_all}
use Rattle.mv_bound_rules.proofs.Entries.{gather_more}
use Rattle.mv_bounds.proofs.duplicates.slices_of.Goals as goal

pub loop-list-preserved : goal.loop-list-preserved
loop-list-preserved c =
    let now = λ (slice : Bor (List ℕ)). slice.now in
    ap (map now) c.in_ok-push.ensures.items
    ∙ gather_more now (λ (list : Vec ℕ Global). list.items) c.loop-list.slices.items c.args.lists.now c.loop-list.list-index c.as_slice.result c.list-item.result c.loop-list.invariant c.loop-list-test.true c.list-item.is c.as_slice.ensures.value

pub returns : goal.returns
returns c =
    c.loop-list.invariant ∙ ap (map (λ (list : Vec ℕ Global). list.items)) (take_all c.loop-list.list-index c.args.lists.now c.loop-list-test.false)
