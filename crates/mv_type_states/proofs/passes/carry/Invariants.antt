use Rattle.mv_type_states.proofs.Common.{◌++◌, ◌≡◌, IsSome, drop, length, reverse, height_through, types_each, types_through}
use Rattle.mv_type_states.proofs.passes.carry.Given as goal

-- what is left leads from the types as they are to where the whole leads from the first, and there is room for it; what is
-- listed and what is left make the whole
abbrev pub invariant-loop-instruction : goal.invariant-loop-instruction
invariant-loop-instruction l = record {
  leads : types_through l.scope.module.now l.scope.function.now l.code (reverse l.fn.stack.items)
      ≡ types_through l.scope.module.now l.scope.function.now (drop l.instruction-index l.code) (reverse l.stack.items);
  room : IsSome (height_through l.scope.module.now l.scope.function.now (drop l.instruction-index l.code) (length (reverse l.stack.items)));
  listed : l.all ++ types_each l.scope.module.now l.scope.function.now (drop l.instruction-index l.code) (reverse l.stack.items)
      ≡ l.fn.all ++ types_each l.scope.module.now l.scope.function.now l.code (reverse l.fn.stack.items);
}
