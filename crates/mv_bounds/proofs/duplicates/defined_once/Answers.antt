use Rattle.mv_bounds.proofs.Common.{ℕ, ◌<◌, ◌==◌, ◌∙◌, ◌≡◌, arith, cond, count_by, get_or, length, ne_eqb, sym, get_or_read}
use Rattle.mv_bounds.proofs.Defined.{fails_at, number_of}
use Rattle.mv_bounds.proofs.duplicates.defined_once.Goals as goal

pub returns-then-index-from : goal.returns-then-index-from
returns-then-index-from c =
    let homes = c.args.homes.now in
    let defined = c.args.defined.now in
    let h = c.loop-h.h in
    let counts = c.in_ok-counts.counts.items in
    let low : h < length homes = omega arith in
    let short : h < length counts = omega (arith, c.in_ok-counts.ensures.len) in
    let is : c.index.result.now ≡ count_by (λ d. d == h) defined =
    get_or_read counts h c.index.result.now short c.index.ensures 0 ∙ c.in_ok-counts.ensures.counts h low in
    let was : c.from.result ≡ cond (get_or homes h 0 == c.args.own) 1 0 = c.from.ensures ∙ number_of (get_or homes h 0 == c.args.own) in
    sym (fails_at (λ (k : ℕ). get_or homes k 0) c.args.own (length homes) defined h low (ne_eqb _ _ (λ e. c.if-index-from.true (is ∙ e ∙ sym was))))
