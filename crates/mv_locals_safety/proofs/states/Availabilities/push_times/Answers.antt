use Rattle.std.proofs.Common.{sym, append-nil}
use Rattle.mv_locals_safety.proofs.Places.{once_more}
use Rattle.mv_locals_safety.proofs.states.Availabilities.push_times.Goals as goal

pub more-init : goal.more-init
more-init c = sym (append-nil c.args.self.now)

pub more-preserved : goal.more-preserved
more-preserved c = once_more c.args.self.now c.more.self c.push.new.self c.more.counter c.args.a c.more.invariant c.in_ok-push.ensures
