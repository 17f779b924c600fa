use Rattle.mv_edges.proofs.Common.{◌+◌, ◌-◌, ◌/◌, ◌<◌, ◌∙◌, ◌≡◌, Some, ap, arith, length, subst, sym, true, slice_get-get_or, edge_before, edge_order}
use Rattle.mv_edges.proofs.Comparisons.{order_same, order_less, order_greater}
use Rattle.mv_edges.proofs.Counting.{counted_more, middle_below, lower_half, upper_half, spends_half, spends_found}
use Rattle.mv_edges.proofs.Sorting.{all_before_at, all_after_at}
use Rattle.mv_edges.proofs.search.place_of.Goals as goal

pub loop-low-preserved-in-Less : goal.loop-low-preserved-in-Less
loop-low-preserved-in-Less c =
    let low = c.loop-low.low in
    let high = c.loop-low.high in
    let middle = low + (high - low) / 2 in
    let x = c.index-items-middle.result in
    let e = c.args.e.now in
    let test : low < high = c.loop-low-test.true in
    let below : middle < high = middle_below low high test in
    let within = c.loop-low.invariant.within in
    let before : edge_before x e ≡ true = order_less x e (ap (λ v. edge_order v e) (sym c.view.ensures) ∙ sym c.in-Less.ensures.order) in
    let next = c.counted_order.ensures.count in
    let more = counted_more c.args.comparisons.now c.loop-low.comparisons c.counted_order.new.comparisons c.loop-low.invariant.kept c.counted_order.ensures.kept next in
    record {
      order = omega (arith, below);
      within = within;
      before = all_before_at c.args.items.now middle x e (omega (arith, below, within)) c.requires (subst (λ y. edge_before y e ≡ true) c.index-items-middle.is before);
      after = c.loop-low.invariant.after;
      least = λ _. more.0;
      kept = more.1;
      count = spends_half (high - low) (high - (middle + 1)) (length c.args.items.now) c.args.comparisons.now c.loop-low.comparisons c.counted_order.new.comparisons (upper_half low high test) (omega (arith, test)) (omega (arith, next)) c.loop-low.invariant.count;
    }

pub returns-in-Equal-clause-found : goal.returns-in-Equal-clause-found
returns-in-Equal-clause-found c =
    let low = c.loop-low.low in
    let high = c.loop-low.high in
    let middle = low + (high - low) / 2 in
    let x = c.index-items-middle.result in
    let e = c.args.e.now in
    let below : middle < high = middle_below low high c.loop-low-test.true in
    let within = c.loop-low.invariant.within in
    let same : x ≡ e = order_same x e (ap (λ v. edge_order v e) (sym c.view.ensures) ∙ sym c.in-Equal.ensures.order) in
    slice_get-get_or c.args.items.now middle x (omega (arith, below, within)) ∙ ap Some (sym c.index-items-middle.is ∙ same)

pub returns-in-Equal-clause-count : goal.returns-in-Equal-clause-count
returns-in-Equal-clause-count c =
    let test : c.loop-low.low < c.loop-low.high = c.loop-low-test.true in
    let next = c.counted_order.ensures.count in
    spends_found (c.loop-low.high - c.loop-low.low) (length c.args.items.now) c.args.comparisons.now c.loop-low.comparisons c.counted_order.new.comparisons (omega (arith, test)) (omega (arith, next)) c.loop-low.invariant.count

pub returns-in-Equal-clause-counted : goal.returns-in-Equal-clause-counted
returns-in-Equal-clause-counted c =
    let more = counted_more c.args.comparisons.now c.loop-low.comparisons c.counted_order.new.comparisons c.loop-low.invariant.kept c.counted_order.ensures.kept c.counted_order.ensures.count in
    record { least = λ _. more.0; kept = more.1 }

pub loop-low-preserved : goal.loop-low-preserved
loop-low-preserved c =
    let low = c.loop-low.low in
    let high = c.loop-low.high in
    let middle = low + (high - low) / 2 in
    let x = c.index-items-middle.result in
    let e = c.args.e.now in
    let test : low < high = c.loop-low-test.true in
    let below : middle < high = middle_below low high test in
    let within = c.loop-low.invariant.within in
    let after : edge_before e x ≡ true = order_greater x e (ap (λ v. edge_order v e) (sym c.view.ensures) ∙ sym c.in-Greater.ensures.order) in
    let next = c.counted_order.ensures.count in
    let more = counted_more c.args.comparisons.now c.loop-low.comparisons c.counted_order.new.comparisons c.loop-low.invariant.kept c.counted_order.ensures.kept next in
    record {
      order = omega arith;
      within = omega (arith, below, within);
      before = c.loop-low.invariant.before;
      after = all_after_at c.args.items.now middle x e (omega (arith, below, within)) c.requires (subst (λ y. edge_before e y ≡ true) c.index-items-middle.is after);
      least = λ _. more.0;
      kept = more.1;
      count = spends_half (high - low) (middle - low) (length c.args.items.now) c.args.comparisons.now c.loop-low.comparisons c.counted_order.new.comparisons (lower_half low high test) (omega (arith, test)) (omega (arith, next)) c.loop-low.invariant.count;
    }
