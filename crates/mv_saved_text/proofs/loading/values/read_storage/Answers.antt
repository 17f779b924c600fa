use Rattle.mv_saved_text.proofs.Common.{[], ◌∙◌, Some, ap, err_from_is_err_and, FlatStorage}
use Rattle.mv_storage.proofs.Filled.{IsFilled-none, filled-same}
use Rattle.mv_saved_text.proofs.loading.values.read_storage.Goals as goal

pub returns-in_err-fill-clause-refused : goal.returns-in_err-fill-clause-refused
returns-in_err-fill-clause-refused c =
    let p = err_from_is_err_and c.from_residual.result c.from_residual.ensures.1 in rw (p.1, p.2) (c.in_err-fill.ensures.refused [] (rw c.new-filling.ensures IsFilled-none))

pub returns-clause-ok : goal.returns-clause-ok
returns-clause-ok c =
    let put = c.in_ok-fill.ensures.ok [] (rw c.new-filling.ensures IsFilled-none) in
    put.2 ∙ ap (λ (s : FlatStorage). Some (s, c.fill.new.reader)) (filled-same c.fill.new.filling put.0 c.in_ok-storage.storage.committed put.1 c.in_ok-storage.ensures.committed)
