use Rattle.mv_bounds.proofs.Common.{ℕ, ◌∙◌, ◌≡◌, Bor, List, ap, bytes_eq, map, sym, IfOk-weaker, all_differ}
use Rattle.mv_bounds.proofs.Distinct.{all_differ_mapped}
use Rattle.mv_bounds.proofs.duplicates.texts_differ.Goals as goal

pub returns : goal.returns
returns c =
    let names = c.deref.result.now in
    let is : map (λ (name : Bor (List ℕ)). name.now) names ≡ c.args.m.now.identifiers = ap (map (λ (name : Bor (List ℕ)). name.now)) c.deref.ensures.value ∙ c.in_ok-texts.ensures in
    IfOk-weaker c.all_distinct.result (λ b. b ≡ all_differ (λ (x y : Bor (List ℕ)). bytes_eq x.now y.now) names) (λ b. b ≡ all_differ bytes_eq c.args.m.now.identifiers)
    (λ b k. k ∙ sym (all_differ_mapped (λ (name : Bor (List ℕ)). name.now) bytes_eq names) ∙ ap (all_differ bytes_eq) is) c.all_distinct.ensures
