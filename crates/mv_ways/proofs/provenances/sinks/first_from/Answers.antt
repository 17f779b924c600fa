use Rattle.mv_edges.proofs.Common.{◌+◌, ◌-◌, ◌/◌, ◌<◌, ◌∙◌, ◌≡◌, an_edge, ap, arith, edge_before, false, get_or, here, le-ltb, length, lt-ltb, subst, sym, true}
use Rattle.mv_edges.proofs.Counting.{middle_below}
use Rattle.mv_edges.proofs.Numbers.{before_by, before_more, behind_more}
use Rattle.mv_ways.proofs.provenances.sinks.first_from.Goals as goal

pub loop-low-preserved-then-nodes_number-number : goal.loop-low-preserved-then-nodes_number-number
loop-low-preserved-then-nodes_number-number c =
    let es = c.args.others.now in
    let f = an_edge c.args.from here c.args.to in
    let low = c.loop-low.low in
    let high = c.loop-low.high in
    let middle = low + (high - low) / 2 in
    let x = c.index-others-middle.result in
    let n = c.nodes_number.result in
    let m = c.args.number in
    let below : middle < high = middle_below low high c.loop-low-test.true in
    let within = c.loop-low.invariant.within in
    let inside : middle < length es = omega (arith, below, within) in
    let order = before_by x f c.from.result c.to.result c.from.ensures c.to.ensures n m c.nodes_number.ensures.value c.requires.number c.nodes_number.ensures.from c.nodes_number.ensures.to c.requires.from c.requires.to in
    let before : edge_before x f ≡ true = sym order ∙ lt-ltb n m c.if-nodes_number-number.true in
    record {
      order = omega (arith, below);
      within = within;
      before = before_more f es c.requires.ascending middle x inside (subst (λ y. edge_before y f ≡ true) c.index-others-middle.is before);
      behind = c.loop-low.invariant.behind;
    }

pub loop-low-preserved : goal.loop-low-preserved
loop-low-preserved c =
    let es = c.args.others.now in
    let f = an_edge c.args.from here c.args.to in
    let low = c.loop-low.low in
    let high = c.loop-low.high in
    let middle = low + (high - low) / 2 in
    let x = c.index-others-middle.result in
    let n = c.nodes_number.result in
    let m = c.args.number in
    let below : middle < high = middle_below low high c.loop-low-test.true in
    let within = c.loop-low.invariant.within in
    let inside : middle < length es = omega (arith, below, within) in
    let order = before_by x f c.from.result c.to.result c.from.ensures c.to.ensures n m c.nodes_number.ensures.value c.requires.number c.nodes_number.ensures.from c.nodes_number.ensures.to c.requires.from c.requires.to in
    let behind : edge_before x f ≡ false = sym order ∙ le-ltb n m c.if-nodes_number-number.false in
    record {
      order = omega arith;
      within = omega (arith, inside);
      before = c.loop-low.invariant.before;
      behind = behind_more f es c.requires.ascending middle x inside (subst (λ y. edge_before y f ≡ false) c.index-others-middle.is behind);
    }
