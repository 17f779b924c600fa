use Rattle.std.proofs.Common.{◌≡◌, map, take}
use Rattle.mv_interface.specs.Outline.{function_by}
use Rattle.mv_interface.proofs.outline.functions_of.Given as goal

abbrev pub invariant-loop-d : goal.invariant-loop-d
invariant-loop-d l = l.entries.items ≡ map (function_by l.m) (take l.d-index l.m.functions)
