use Rattle.std.proofs.Common.{length, take, ◌-◌, ◌≤◌}
use Rattle.moveledger_program.specs.Following.{Leads}
use Rattle.moveledger_program.proofs.following.ParseState.after.Given as goal

abbrev pub invariant-loop-passed : goal.invariant-loop-passed
invariant-loop-passed l = record {
  within : l.passed ≤ length l.bytes;
  leads : Leads l.fn.self (take l.passed l.bytes) l.state;
}

abbrev pub decreases-loop-passed : goal.decreases-loop-passed
decreases-loop-passed l = length l.bytes - l.passed
