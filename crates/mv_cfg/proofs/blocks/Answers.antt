use Rattle.std.proofs.Common.{◌≡◌, sym, subst}
use Rattle.std.proofs.lemmas.Option.{MatchOption-at_some}
use Rattle.mv_move_types.specs.Module.{FunctionDefinition}
use Rattle.mv_cfg.specs.Steps.{BranchesInside}
use Rattle.mv_cfg.proofs.Targets.{branches-inside}
use Rattle.mv_cfg.proofs.blocks.Goals as goal
use Rattle.mv_bound_rules.proofs.Entries.{element_at}

pub graph-requires-clause-inside : goal.graph-requires-clause-inside
graph-requires-clause-inside c =
    let found = element_at c.args.m.now.functions c.args.f c.requires in
    let same : c.code-code.result.now ≡ found.0.code = MatchOption-at_some _ (λ (d : FunctionDefinition). c.code-code.result.now ≡ d.code) found.0 found.1 c.code-code.ensures in
    subst BranchesInside (sym same) (branches-inside c.args.m.now c.args.f found.0 c.module-module.ensures.bounds found.1)
