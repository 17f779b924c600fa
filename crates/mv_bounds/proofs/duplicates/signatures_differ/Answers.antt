use Rattle.mv_bounds.proofs.Common.{ℕ, ◌∙◌, ◌≡◌, Bor, Global, List, Vec, ap, eqb, map, refl, pointwise, same_tokens, token_code}
use Rattle.mv_bounds.proofs.Distinct.{answer_by_keys}
use Rattle.mv_bounds.proofs.TypeLemmas.{lists_by_code}
use Rattle.mv_bounds.proofs.duplicates.signatures_differ.Goals as goal

pub returns : goal.returns
returns c =
    let now = λ (slice : Bor (List ℕ)). slice.now in
    let codes = λ (list : Vec ℕ Global). list.items in
    let are : map now c.deref-2.result.now ≡ map (map token_code) c.args.m.now.signatures =
    ap (map now) c.deref-2.ensures.value ∙ c.in_ok-keys.ensures ∙ ap (map codes) c.deref.ensures.value ∙ c.in_ok-codes.ensures in
    answer_by_keys now (map token_code) (pointwise eqb) same_tokens c.deref-2.result.now c.args.m.now.signatures c.all_distinct.result are (lists_by_code eqb (λ x y. refl)) c.all_distinct.ensures
