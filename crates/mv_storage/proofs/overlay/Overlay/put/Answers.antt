use Rattle.mv_storage.proofs.Common.{◌∙◌, on_err_weaker, on_ok_weaker, refl}
use Rattle.mv_storage.proofs.Undoing.{seen, stepped}
use Rattle.mv_storage.proofs.overlay.Overlay.put.Goals as goal

pub put-requires-clause-absent : goal.put-requires-clause-absent
put-requires-clause-absent c = seen c.storage.inside.work.places c.storage.inside.undo.items c.storage.inside.marks _ c.args.key c.storage.invariant.0.tracked.sound c.storage.view_is ∙ c.requires.absent

pub returns : goal.returns
returns c =
    let s = c.storage.inside in
    let left = stepped s.work c.put.new.self s.undo.items s.marks _ c.storage.invariant c.put.ensures.at_work c.put.ensures.pinned c.put.ensures.committed c.storage.view_is in
    record {
      current = on_ok_weaker c.put.result (left.put c.args.key c.args.value) c.put.ensures.current;
      committed = left.committed;
      marks = left.marks;
      loan = refl;
      err = on_err_weaker c.put.result left.same c.put.ensures.err;
    }

pub invariant_of-storage : goal.invariant_of-storage
invariant_of-storage c =
    let s = c.storage.inside in
    (stepped s.work c.put.new.self s.undo.items s.marks _ c.storage.invariant c.put.ensures.at_work c.put.ensures.pinned c.put.ensures.committed c.storage.view_is).holds
