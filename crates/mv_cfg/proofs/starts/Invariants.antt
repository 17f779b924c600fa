use Rattle.std.proofs.Common.{◌≡◌, ◌++◌, drop}
use Rattle.mv_cfg.specs.Blocks.{starts_from}
use Rattle.mv_cfg.specs.Steps.{starts}
use Rattle.mv_cfg.proofs.starts.Given as goal

abbrev pub invariant-loop-i : goal.invariant-loop-i
invariant-loop-i l = l.firsts.items ++ starts_from l.code l.i l.begins (drop l.i l.code) ≡ starts l.code
