use Rattle.mv_saved_text.proofs.Saves.Steps.{module-comes}
use Rattle.mv_saved_text.proofs.steps.module_text.Goals as goal

pub returns : goal.returns
returns c = λ s same.
    module-comes s c.args.store.now c.args.place c.new-text.result.items c.put_sized.new.text.items c.put_sized-2.new.text.items c.texts.result.0.now c.texts.result.1.now same c.requires
    c.new-text.ensures.items c.texts.ensures.text c.texts.ensures.certificate c.in_ok-put_sized.ensures c.in_ok-put_sized-2.ensures
