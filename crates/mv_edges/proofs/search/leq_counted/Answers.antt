use Rattle.mv_edges.proofs.Common.{◌<◌, ◌∙◌, ◌≡◌, ap, arith, get_or, length, rules, subst, sym, take, true, and_from, list_all, list_any, edge_leq, longest}
use Rattle.std.proofs.lemmas.List.Folds.{list_all_more}
use Rattle.mv_edges.proofs.Counting.{within_110, counted_on}
use Rattle.mv_edges.proofs.search.leq_counted.Goals as goal

pub returns-then-not-reach-clause-count : goal.returns-then-not-reach-clause-count
returns-then-not-reach-clause-count c =
    λ h g.
    let before = c.loop-e.invariant.count h g in
    let one = within_110 (length c.args.b.now) (longest c.args.b.now) c.loop-e.comparisons c.reach.new.comparisons c.reach.ensures.count h g in
    let inside = c.loop-e-test.true in
    let same = ap length c.as_slice-e-items.ensures.value in
    omega (arith, before, one, inside, same)

pub loop-e-preserved : goal.loop-e-preserved
loop-e-preserved c =
    let a = c.args.a.now in
    let b = c.args.b.now in
    let i = c.loop-e.e-index in
    let x = c.e-item.result in
    let test = c.loop-e-test.true in
    let long = ap length c.as_slice-e-items.ensures.value in
    let inside : i < length a = omega (arith, test, long) in
    let same = c.view.ensures ∙ c.e-item.is ∙ ap (λ es. get_or es i x) c.as_slice-e-items.ensures.value in
    let reached : c.reach.result ≡ true = search rules in
    let at : list_any (edge_leq (get_or a i x)) b ≡ true = subst (λ e. list_any (edge_leq e) b ≡ true) same (sym c.reach.ensures.value ∙ reached) in
    record {
      below =
          list_all_more (λ e. list_any (edge_leq e) b) a i x inside
          ∙ and_from (list_all (λ e. list_any (edge_leq e) b) (take i a)) (list_any (edge_leq (get_or a i x)) b) c.loop-e.invariant.below at;
      each = counted_on (length b) i c.args.comparisons.now c.loop-e.comparisons c.reach.new.comparisons c.loop-e.invariant.each c.reach.ensures.counted;
      count = λ h g.
          let before = c.loop-e.invariant.count h g in
          let one = within_110 (length b) (longest b) c.loop-e.comparisons c.reach.new.comparisons c.reach.ensures.count h g in
          omega (arith, before, one);
    }
