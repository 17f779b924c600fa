use Rattle.mv_bound_rules.proofs.Common.{◌∙◌, Global, Vec, ap, FunctionDefinition}
use Rattle.mv_move_types.specs.declared.instruction.Instruction.{Instruction}
use Rattle.mv_bound_rules.specs.Functions.{codes_of}
use Rattle.mv_bound_rules.proofs.Entries.{listed_at}
use Rattle.mv_bound_rules.proofs.Bounded.code.Goals as goal

pub returns : goal.returns
returns c =
    let coded = c.self.invariant.coded ∙ ap codes_of c.self.view_is in
    let here = listed_at (λ (v : Vec Instruction Global). v.items) (λ (d : FunctionDefinition). d.code) c.args.self.now.functions c.args.f c.index.result.now c.self.inside.codes.items coded c.requires c.index.ensures in
    rw c.deref.ensures.value here
