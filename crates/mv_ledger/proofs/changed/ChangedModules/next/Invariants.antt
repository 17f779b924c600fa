use Rattle.mv_ledger.proofs.Common.{◌≡◌, ◌-◌, length}
use Rattle.std.proofs.Common.{drop}
use Rattle.mv_ledger.specs.Changed.{module_changes}
use Rattle.mv_ledger.proofs.changed.ChangedModules.next.Given as goal

-- what was left to tell is what is left to tell, over the same modules
abbrev pub invariant-each : goal.invariant-each
invariant-each l =
    let first = l.initial.self-inside in
    let here = l.self-inside in
    (module_changes (drop first.place first.before.now) (drop first.place first.now.now) ≡ module_changes (drop here.place here.before.now) (drop here.place here.now.now))
    × (here.before.now ≡ first.before.now)
    × (here.now.now ≡ first.now.now)

abbrev pub decreases-each : goal.decreases-each
decreases-each l = length l.self-inside.now.now - l.self-inside.place
