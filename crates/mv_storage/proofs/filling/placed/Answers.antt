use Rattle.mv_storage.proofs.Common.{◌∙◌}
use Rattle.std.proofs.IntoIterSteps.{All-taken}
use Rattle.mv_storage.proofs.Pairs.{filled-places}
use Rattle.mv_storage.proofs.filling.placed.Goals as goal

pub returns : goal.returns
returns c =
    let h = c.in_ok-tree.ensures.ran in
    let taken = All-taken h.0 h.1 ((h.3.2 tt).0, (h.3.0, h.3.1, (h.3.2 tt).1)) in
    rw (← c.of.ensures.slots)
    (filled-places c.of.result c.args.pairs.items h.1 (rw c.of.ensures.slots c.requires) (taken ∙ h.2.0 ∙ c.reverse.ensures.items) (rw c.of.ensures.tree h.4))
