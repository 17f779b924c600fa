use Rattle.mv_bounds.proofs.Common.{ℕ, ◌&&◌, ◌==◌, ◌∙◌}
use Rattle.mv_move_types.specs.declared.tables.FieldHandle.{FieldHandle}
use Rattle.mv_bounds.proofs.Distinct.{answer_of_keys}
use Rattle.mv_bounds.proofs.duplicates.field_handles_differ.Goals as goal

pub returns : goal.returns
returns c =
    answer_of_keys (λ (h : FieldHandle). (h.definition, h.position)) (λ (x y : ℕ × ℕ). (x.0 == y.0) && (x.1 == y.1)) c.args.m.now.field_handles c.deref.result.now c.all_distinct.result (c.deref.ensures.value ∙ c.in_ok-places.ensures) c.all_distinct.ensures
