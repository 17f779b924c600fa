use Rattle.mv_saved_text.proofs.Common.{◌∙◌, ap, tables_in, is_keyed}
use Rattle.mv_saved_text.proofs.Saves.LayoutParts.{keyed-same}
use Rattle.mv_saved_text.proofs.layouts.Layouts.is_keyed.Goals as goal

pub returns : goal.returns
returns c = c.is_keyed.ensures ∙ keyed-same (tables_in c.self.inside.store.now) c.args.d ∙ ap (λ ms. is_keyed ms c.args.d) c.self.view_is
