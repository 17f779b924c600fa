use Rattle.mv_saved_text.proofs.Saves.Coding.{coded-start}
use Rattle.mv_saved_text.proofs.saving.put_leaves.Goals as goal

pub each-init : goal.each-init
each-init c = coded-start c.args.kinds.now c.args.words.now c.args.text.now.items c.requires
