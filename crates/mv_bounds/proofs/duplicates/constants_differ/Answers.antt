use Rattle.mv_bounds.proofs.Common.{ℕ, ◌&&◌, ◌∙◌, Bool, Bor, List, ap, bytes_eq, eqb, map, Constant, token_code}
use Rattle.mv_bound_rules.specs.Definitions.{same_constant}
use Rattle.mv_bounds.proofs.Distinct.{answer_by_keys}
use Rattle.mv_bounds.proofs.TypeLemmas.{tokens_by_code}
use Rattle.mv_bounds.proofs.duplicates.constants_differ.Goals as goal

pub returns : goal.returns
returns c =
    let now : ℕ × Bor (List ℕ) → ℕ × List ℕ = λ k. (k.0, k.1.now) in
    let key : Constant → ℕ × List ℕ = λ k. (token_code k.token, k.bytes) in
    let eq : ℕ × List ℕ → ℕ × List ℕ → Bool = λ k l. eqb k.0 l.0 && bytes_eq k.1 l.1 in
    answer_by_keys now key eq same_constant c.deref.result.now c.args.constants.now c.all_distinct.result (ap (map now) c.deref.ensures.value ∙ c.in_ok-keys.ensures)
    (λ x y. ap (λ b. b && bytes_eq x.bytes y.bytes) (tokens_by_code x.token y.token)) c.all_distinct.ensures
