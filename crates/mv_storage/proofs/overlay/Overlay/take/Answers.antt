use Rattle.mv_storage.proofs.Common.{◌∙◌, refl, IfOk-weaker, on_err_weaker, on_ok_weaker}
use Rattle.mv_storage.proofs.Undoing.{seen, stepped}
use Rattle.mv_storage.proofs.overlay.Overlay.take.Goals as goal

pub returns : goal.returns
returns c =
    let s = c.storage.inside in
    let key = c.args.key.now in
    let left = stepped s.work c.take.new.self s.undo.items s.marks _ c.storage.invariant c.take.ensures.at_work c.take.ensures.pinned c.take.ensures.committed c.storage.view_is in
    record {
      value = IfOk-weaker c.take.result _ _ (λ v is. is ∙ seen s.work.places s.undo.items s.marks _ key c.storage.invariant.0.tracked.sound c.storage.view_is) c.take.ensures.value;
      current = on_ok_weaker c.take.result (left.taken key) c.take.ensures.current;
      committed = left.committed;
      marks = left.marks;
      loan = refl;
      err = on_err_weaker c.take.result left.same c.take.ensures.err;
    }

pub invariant_of-storage : goal.invariant_of-storage
invariant_of-storage c =
    let s = c.storage.inside in
    (stepped s.work c.take.new.self s.undo.items s.marks _ c.storage.invariant c.take.ensures.at_work c.take.ensures.pinned c.take.ensures.committed c.storage.view_is).holds
