use Rattle.std.proofs.Common.{◌++◌, ◌≡◌}
use Rattle.std.specs.Slice.Iter.{iter_rest}
use Rattle.mv_analyser.specs.States.{with_edges}
use Rattle.mv_analyser.proofs.borrows.stated_and.Given as goal

-- the blocks so far, and those that are left
abbrev pub invariant-loop-known : goal.invariant-loop-known
invariant-loop-known l = l.blocks.items ++ with_edges (iter_rest l.known-iterator.a) l.known-iterator.b.rest.items ≡ with_edges l.stated l.fn.edges.items
