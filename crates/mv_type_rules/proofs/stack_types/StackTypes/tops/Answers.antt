use Rattle.mv_type_rules.proofs.Common.{[], ◌++◌, ◌∙◌, ◌∷◌, ap}
use Rattle.mv_type_rules.proofs.TopLemmas.{tops_of-push}
use Rattle.mv_type_rules.proofs.stack_types.StackTypes.tops.Goals as goal

pub loop-at-preserved : goal.loop-at-preserved
loop-at-preserved c =
    c.in_ok-add.ensures ∙ ap (λ s. c.loop-at.tops ++ s ∷ []) c.topmost.ensures ∙ tops_of-push c.args.self.now c.loop-at.at _ c.loop-at.tops c.before-stack.ensures c.loop-at.invariant
