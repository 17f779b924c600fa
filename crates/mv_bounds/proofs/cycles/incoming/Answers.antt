use Rattle.mv_bounds.proofs.Common.{ℕ, ◌++◌, ◌+◌, ◌<◌, ◌^◌, ◌∙◌, ◌≡◌, List, ap, arith, drop, get_or, length, subst, sym, take, take_at, times}
use Rattle.mv_bound_rules.proofs.TimesLemmas.{times_length}
use Rattle.mv_bounds.proofs.CountLemmas.{incoming_more}
use Rattle.mv_bounds.proofs.cycles.incoming.Goals as goal

pub loop-targets-preserved : goal.loop-targets-preserved
loop-targets-preserved c =
    let old = c.loop-targets.counts.items in
    let new = c.count.new.counts in
    let rest = drop (length new) old in
    let k = c.loop-targets.targets-index in
    let targets = c.targets-item.result in
    let long : length new ≡ c.loop-targets.counts.len = omega arith in
    let all : take c.loop-targets.counts.len (new ++ rest) ≡ new = take_at new rest c.loop-targets.counts.len long in
    let held : (j : ℕ) → j < length c.args.graph.now → get_or (take c.loop-targets.counts.len (new ++ rest)) j 0 ≡ get_or old j 0 + times j targets.items = λ j l.
    ap (λ (xs : List ℕ). get_or xs j 0) all ∙ c.count.ensures j (subst (λ (xs : List ℕ). j < length xs) (sym c.deref_mut.ensures.value) (omega (arith, l, c.loop-targets.invariant.len)))
    ∙ ap (λ (xs : List ℕ). get_or xs j 0 + times j c.deref.result.now) c.deref_mut.ensures.value ∙ ap (λ (xs : List ℕ). get_or old j 0 + times j xs) c.deref.ensures.value in
    record {
      len = ap length all ∙ omega (arith, long, c.loop-targets.invariant.len);
      counts = λ j l. held j l ∙ ap (λ n. n + times j targets.items) (c.loop-targets.invariant.counts j l) ∙ sym (incoming_more c.args.graph.now k j targets c.loop-targets-test.true c.targets-item.is);
      low = λ j l.
          let h = held j l in
          let low = c.loop-targets.invariant.low j l in
          let most = times_length j targets.items in
          let few : length targets.items < 2 ^ 64 = omega arith in
          omega (arith, h, low, most, few);
    }
