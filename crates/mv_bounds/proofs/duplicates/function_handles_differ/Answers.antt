use Rattle.mv_bounds.proofs.Common.{ℕ, ◌&&◌, ◌==◌, ◌∙◌, FunctionHandle}
use Rattle.mv_bounds.proofs.Distinct.{answer_of_keys}
use Rattle.mv_bounds.proofs.duplicates.function_handles_differ.Goals as goal

pub returns : goal.returns
returns c =
    answer_of_keys (λ (h : FunctionHandle). (h.module, h.name)) (λ (x y : ℕ × ℕ). (x.0 == y.0) && (x.1 == y.1)) c.args.m.now.function_handles c.deref.result.now c.all_distinct.result (c.deref.ensures.value ∙ c.in_ok-names.ensures) c.all_distinct.ensures
