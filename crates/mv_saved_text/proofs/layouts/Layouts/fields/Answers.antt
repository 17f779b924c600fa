use Rattle.mv_saved_text.proofs.Common.{List, option_map, subst, Module, AreFieldsAt}
use Rattle.mv_saved_text.proofs.layouts.Layouts.fields.Goals as goal

pub returns : goal.returns
returns c = subst (λ (ms : List Module). AreFieldsAt ms c.args.d (option_map (λ p. p.now) c.fields.result)) c.self.view_is c.fields.ensures.fields
