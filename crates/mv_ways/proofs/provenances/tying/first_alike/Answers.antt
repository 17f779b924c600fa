use Rattle.mv_edges.proofs.Common.{◌<◌, ◌∙◌, ap, arith, get_or_default, length, sym}
use Rattle.mv_ways.specs.Graph.{Reborrow}
use Rattle.mv_ways.proofs.provenances.tying.first_alike.Goals as goal

pub returns-then-are_same-clause-alike : goal.returns-then-are_same-clause-alike
returns-then-are_same-clause-alike c = λ d.
    let reborrows = c.args.reborrows.now in
    let here : c.args.place < length reborrows = c.requires in
    let there : c.loop-k.k < length reborrows = omega arith in
    ap (λ (h : Reborrow). h.givers) (get_or_default reborrows c.loop-k.k d c.index-reborrows-k.result there ∙ sym c.index-reborrows-k.is)
    ∙ sym c.givers.ensures
    ∙ c.are_same.ensures c.if-are_same.true
    ∙ c.givers-in-loop-k.ensures
    ∙ ap (λ (h : Reborrow). h.givers) (c.index-reborrows-place.is ∙ get_or_default reborrows c.args.place c.index-reborrows-place.result d here)
