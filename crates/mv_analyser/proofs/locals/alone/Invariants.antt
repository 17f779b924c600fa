use Rattle.std.proofs.Common.{◌++◌, ◌≡◌}
use Rattle.mv_analyser.specs.States.{locals_alone}
use Rattle.mv_analyser.proofs.locals.alone.Given as goal

-- the blocks so far, and those that are left
abbrev pub invariant-loop-locals : goal.invariant-loop-locals
invariant-loop-locals l = l.blocks.items ++ locals_alone l.locals-iterator.rest.items ≡ locals_alone l.fn.all.items
