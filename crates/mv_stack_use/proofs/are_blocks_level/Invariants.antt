use Rattle.std.proofs.Common.{◌≡◌, drop, map}
use Rattle.std.specs.List.{list_all}
use Rattle.mv_cfg.specs.FlowGraph.{basic_block_of}
use Rattle.mv_stack_use.specs.Heights.{block_is_level, function_is_level}
use Rattle.mv_stack_use.proofs.are_blocks_level.Given as goal

-- the blocks that are left decide
abbrev pub invariant-loop-block : goal.invariant-loop-block
invariant-loop-block l =
    function_is_level l.m l.d ≡ list_all (block_is_level l.m l.d) (map (basic_block_of l.g) (drop l.block-index l.g.blocks.items))
