use Rattle.mv_edges.proofs.Common.{not, rules, filter_same, same_node}
use Rattle.mv_ways.specs.declared.provenances.Reference.{Reference}
use Rattle.mv_ways.proofs.provenances.steps.remove_references.Goals as goal

pub returns : goal.returns
returns c = filter_same _ (λ (r : Reference). not (same_node r.node c.args.n)) _ (λ x b f k. search rules) _ _ c.retain.ensures.filtered
