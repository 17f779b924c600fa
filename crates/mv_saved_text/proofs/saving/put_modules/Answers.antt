use Rattle.mv_saved_text.proofs.Common.{◌++◌, arith, length, uleb}
use Rattle.mv_saved_text.proofs.Saves.Written.{modules-more}
use Rattle.mv_saved_text.proofs.saving.put_modules.Goals as goal

pub each-preserved : goal.each-preserved
each-preserved c =
    modules-more c.args.store.now c.each.place (c.args.text.now.items ++ uleb (length c.args.store.now)) c.each.text.items c.put_sized.new.text.items c.put_sized-in-each.new.text.items
    c.texts.result.0.now c.texts.result.1.now (omega arith) c.each.invariant c.texts.ensures.text c.texts.ensures.certificate c.in_ok-put_sized.ensures c.in_ok-put_sized-2.ensures
