use Rattle.mv_saved_text.proofs.Common.{◌<◌, ◌∙◌, ◌≤◌, arith, length, refl, subst, sym, true≢false, AllByRecursion, IsTallied, Tally}
use Rattle.mv_saved_text.proofs.Loads.TalliesCounted.{modules-more, modules-each, modules-all}
use Rattle.mv_saved_text.proofs.loading.balance.are_all_counted.Goals as goal

pub returns-then-not-are_counted : goal.returns-then-not-are_counted
returns-then-not-are_counted c =
    let P : Tally → Type 0 = IsTallied c.args.counts.now c.args.runs in (
      λ e. absurd (true≢false (sym e)),
      λ all. absurd (true≢false (sym (c.are_counted.ensures.1 (subst (AllByRecursion P) (sym c.at.ensures) (modules-each P c.args.tallies.now c.each.place all))) ∙ c.if-not-are_counted.true)),
    )

pub each-preserved : goal.each-preserved
each-preserved c =
    let P : Tally → Type 0 = IsTallied c.args.counts.now c.args.runs in
    let lt : c.each.place < length c.args.tallies.now = omega (arith, c.len-place-end.ensures.count) in
    modules-more P c.args.tallies.now c.each.place lt c.each.invariant (subst (AllByRecursion P) c.at.ensures (c.are_counted.ensures.0 c.if-not-are_counted.false))

pub returns : goal.returns
returns c =
    let P : Tally → Type 0 = IsTallied c.args.counts.now c.args.runs in
    let le : length c.args.tallies.now ≤ c.each.place = omega (arith, c.len-place-end.ensures.count) in
    (λ e. modules-all P c.args.tallies.now c.each.place le c.each.invariant, λ all. refl)
