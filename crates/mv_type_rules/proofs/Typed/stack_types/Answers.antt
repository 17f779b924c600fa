use Rattle.mv_type_rules.proofs.Common.{◌∙◌, ap, map, types_before}
use Rattle.std.proofs.lemmas.List.{map-id}
use Rattle.mv_type_rules.proofs.Functions.{listed_at}
use Rattle.mv_type_rules.proofs.Typed.stack_types.Goals as goal

pub returns : goal.returns
returns c =
    let m = c.args.self.now in
    let stacks = c.self.inside.stacks.items in
    listed_at (λ s. s) (types_before m) m.functions c.args.f c.index.result.now stacks (map-id stacks ∙ c.self.invariant.3 ∙ ap (λ m. map (types_before m) m.functions) c.self.view_is) c.requires c.index.ensures
