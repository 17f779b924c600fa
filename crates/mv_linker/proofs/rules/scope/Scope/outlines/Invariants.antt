use Rattle.mv_linker.proofs.Common.{AreOutlines, offered, take}
use Rattle.mv_linker.proofs.rules.scope.Scope.outlines.Given as goal

-- those of the modules so far
abbrev pub invariant-loop-i : goal.invariant-loop-i
invariant-loop-i l = AreOutlines (offered (take l.i l.self.new.now)) l.outlines.items
