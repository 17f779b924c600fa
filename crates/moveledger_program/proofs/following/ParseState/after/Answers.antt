use Rattle.std.proofs.Common.{◌≡◌, ◌-◌, length, take, drop, arith, ap, length-drop, take_all}
use Rattle.moveledger_program.proofs.Passing.{leads-all, leads-further}
use Rattle.moveledger_program.proofs.following.ParseState.after.Goals as goal

pub loop-passed-preserved : goal.loop-passed-preserved
loop-passed-preserved c =
    let bytes = c.args.bytes.now in
    let passed = c.loop-passed.passed in
    let first = c.after_first-next.ensures in
    let rest : take (length bytes - passed) (drop passed bytes) ≡ drop passed bytes = take_all (length bytes - passed) (drop passed bytes) (omega (arith, length-drop passed bytes)) in
    record {
      within = omega (arith, first.within, ap length rest, length-drop passed bytes);
      leads = leads-further c.args.self c.loop-passed.state c.after_first-next.result.0 bytes passed c.after_first-next.result.1 c.loop-passed.invariant.leads first.leads;
    }

pub returns : goal.returns
returns c = leads-all c.args.self c.loop-passed.state c.args.bytes.now c.loop-passed.passed (omega arith) c.loop-passed.invariant.leads
