use Rattle.mv_saved_text.proofs.Common.{AreLeaves}
use Rattle.mv_saved_text.proofs.Saves.Steps.{page-leaves}
use Rattle.mv_saved_text.proofs.steps.page_with.Goals as goal

pub page_text-requires : goal.page_text-requires
page_text-requires c =
    page-leaves (λ e. AreLeaves c.args.kinds.now e.words) c.args.storage.now.committed c.args.d c.args.from c.page-page.result.values _ c.page-page.ensures.all c.requires
