use Rattle.mv_bounds.proofs.Common.{ℕ, ◌≡◌, List, map, take, Constant, token_code}
use Rattle.mv_bounds.proofs.duplicates.constant_keys.Given as goal

abbrev pub invariant-loop-constant : goal.invariant-loop-constant
invariant-loop-constant l =
    map {B = ℕ × List ℕ} (λ k. (k.0, k.1.now)) l.keys.items ≡ map {B = ℕ × List ℕ} (λ (c : Constant). (token_code c.token, c.bytes)) (take l.constant-index l.constants)
