use Rattle.mv_saved_text.proofs.Common.{◌∙◌, ap, structs_in}
use Rattle.mv_saved_text.proofs.layouts.Layouts.structs.Goals as goal

pub returns : goal.returns
returns c = c.structs.ensures.count ∙ ap (λ ms. structs_in ms c.args.place) c.self.view_is
