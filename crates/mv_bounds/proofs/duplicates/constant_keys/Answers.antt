use Rattle.mv_bounds.proofs.Common.{ℕ, ◌∙◌, ◌≡◌, Bor, List, ap, ap₂, map, take_all, Constant, token_code}
use Rattle.mv_bound_rules.proofs.Entries.{gather_more}
use Rattle.mv_bounds.proofs.duplicates.constant_keys.Goals as goal

pub loop-constant-preserved : goal.loop-constant-preserved
loop-constant-preserved c =
    let now : ℕ × Bor (List ℕ) → ℕ × List ℕ = λ k. (k.0, k.1.now) in
    let key : Constant → ℕ × List ℕ = λ k. (token_code k.token, k.bytes) in
    let same : now (c.token_code.result, c.bytes.result) ≡ key c.constant-item.result =
    ap₂ {C = ℕ × List ℕ} (λ n bytes. (n, bytes)) (c.token_code.ensures ∙ ap token_code c.token.ensures) c.bytes.ensures in
    ap (map now) c.in_ok-push.ensures.items
    ∙ gather_more now key c.loop-constant.keys.items c.args.constants.now c.loop-constant.constant-index (c.token_code.result, c.bytes.result) c.constant-item.result c.loop-constant.invariant c.loop-constant-test.true c.constant-item.is same

pub returns : goal.returns
returns c =
    let key : Constant → ℕ × List ℕ = λ k. (token_code k.token, k.bytes) in
    c.loop-constant.invariant ∙ ap (map key) (take_all c.loop-constant.constant-index c.args.constants.now c.loop-constant-test.false)
