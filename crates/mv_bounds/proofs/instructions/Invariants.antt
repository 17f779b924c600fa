use Rattle.mv_bounds.proofs.Common.{◌≡◌, Global, Vec, map, take, FunctionDefinition}
use Rattle.mv_move_types.specs.declared.instruction.Instruction.{Instruction}
use Rattle.mv_bounds.proofs.instructions.Given as goal

abbrev pub invariant-loop-f : goal.invariant-loop-f
invariant-loop-f l = map (λ (v : Vec Instruction Global). v.items) l.codes.items ≡ map (λ (d : FunctionDefinition). d.code) (take l.f l.m.functions)
