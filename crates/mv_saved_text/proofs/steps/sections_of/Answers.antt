use Rattle.mv_saved_text.proofs.Common.{List, subst, sym, All, Module, IsFineWords}
use Rattle.mv_saved_text.proofs.steps.sections_of.Goals as goal

pub sections-requires : goal.sections-requires
sections-requires c = subst (λ (ms : List Module). All (IsFineWords ms) c.args.storage.now.committed) (sym c.in_ok-layouts.ensures) c.requires.fine
