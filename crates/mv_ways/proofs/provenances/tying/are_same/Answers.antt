use Rattle.mv_edges.proofs.Common.{[], ◌++◌, ◌<◌, ◌∙◌, ◌∷◌, ◌≡◌, arith, get_or, length, same_node_decides, sym, take_all, take_more, Slot}
use Rattle.mv_ways.proofs.provenances.tying.are_same.Goals as goal

pub loop-i-preserved : goal.loop-i-preserved
loop-i-preserved c =
    let a = c.args.a.now in
    let b = c.args.b.now in
    let i = c.loop-i.i in
    let inside : i < length a = omega arith in
    let other : i < length b = omega arith in
    let same : get_or a i (Slot 0) ≡ get_or b i (Slot 0) = (same_node_decides (get_or a i (Slot 0)) (get_or b i (Slot 0))).0 (sym c.is_same.ensures ∙ c.if-not-is_same.false) in
    take_more a i (Slot 0) inside ∙ (λ k. c.loop-i.invariant k ++ same k ∷ []) ∙ sym (take_more b i (Slot 0) other)

pub returns : goal.returns
returns c = λ yes.
    let a = c.args.a.now in
    let b = c.args.b.now in
    sym (take_all c.loop-i.i a (omega arith)) ∙ c.loop-i.invariant ∙ take_all c.loop-i.i b (omega arith)
