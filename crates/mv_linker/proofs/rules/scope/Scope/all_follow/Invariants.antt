use Rattle.mv_linker.proofs.Common.{◌≡◌, take, true, list_all, follows, offered, tables_in}
use Rattle.mv_linker.proofs.rules.scope.Scope.all_follow.Given as goal

abbrev pub invariant-each : goal.invariant-each
invariant-each l = list_all (follows (tables_in l.self.store.now)) (offered (take l.k l.self.new.now)) ≡ true
