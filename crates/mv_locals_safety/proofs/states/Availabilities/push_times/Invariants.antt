use Rattle.std.proofs.Common.{◌≡◌, ◌++◌, replicate}
use Rattle.mv_locals_safety.proofs.states.Availabilities.push_times.Given as goal

abbrev pub invariant-more : goal.invariant-more
invariant-more l = l.self ≡ l.initial.self ++ replicate l.counter l.a
