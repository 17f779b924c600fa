use Rattle.mv_type_states.proofs.Common.{[], ◌++◌, ◌≡◌, IsTrue, drop, flat_map, map, list_all, basic_block_of, block_is_level, types_before, block_is_typed, function_is_typed}
use Rattle.mv_type_rules.specs.Sound.{types_in}
use Rattle.mv_type_states.proofs.passes.check_blocks.Given as goal

-- the blocks that are left decide; each is level, and the stack is empty; with what is listed they make the whole
abbrev pub invariant-loop-block : goal.invariant-loop-block
invariant-loop-block l = record {
  decide : function_is_typed l.scope.module.now l.scope.function.now
      ≡ list_all (block_is_typed l.scope.module.now l.scope.function.now) (map (basic_block_of l.g) (drop l.block-index l.g.blocks.items));
  level : IsTrue (list_all (block_is_level l.scope.module.now l.scope.function.now) (map (basic_block_of l.g) (drop l.block-index l.g.blocks.items)));
  empty : l.stack.items ≡ [];
  listed : l.all ++ flat_map (types_in l.scope.module.now l.scope.function.now) (map (basic_block_of l.g) (drop l.block-index l.g.blocks.items)) ≡ types_before l.scope.module.now l.scope.function.now;
}
