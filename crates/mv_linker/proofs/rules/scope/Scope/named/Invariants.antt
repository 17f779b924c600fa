use Rattle.mv_linker.proofs.Common.{◌≡◌, take, true, list_all, names_hold, offered, modules_in}
use Rattle.mv_linker.proofs.Joining.Assembling.{NamesSoFar}
use Rattle.mv_linker.proofs.rules.scope.Scope.named.Given as goal

abbrev pub invariant-loop-i : goal.invariant-loop-i
invariant-loop-i l = record {
  hold : list_all (names_hold (modules_in l.self)) (offered (take l.i l.self.new.now)) ≡ true;
  names : NamesSoFar (modules_in l.self) (offered l.self.new.now) l.all.items l.i;
}
