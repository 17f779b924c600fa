use Rattle.std.proofs.Common.{◌≡◌, ◌<◌, arith}
use Rattle.moveledger_program.specs.declared.following.ParseState.TheVariants as state
use Rattle.moveledger_program.proofs.Passing.{from-between, from-length, from-nowhere, from-payload, from-short}
use Rattle.moveledger_program.proofs.following.ParseState.after_first.Goals as goal

pub returns-in-len2-up-clause-leads : goal.returns-in-len2-up-clause-leads
returns-in-len2-up-clause-leads c =
    let is : c.args.self ≡ state.Record 0 = cc in
    from-short c.args.self c.args.bytes.now c.from.result is c.in-len2-up.len_at_least c.if-length-lt128.true c.from.ensures

pub returns-in_default-clause-leads : goal.returns-in_default-clause-leads
returns-in_default-clause-leads c =
    let is : c.args.self ≡ state.Record 0 = cc in
    from-between c.args.self c.none.result c.args.bytes.now is c.none.ensures.room c.none.ensures.none c.requires

pub returns-in-Record-clause-leads : goal.returns-in-Record-clause-leads
returns-in-Record-clause-leads c =
    let is : c.args.self ≡ state.Record c.in-Record.missing = cc in
    let other = rw c.in-Record.is at c.in-Record.missing-test.1 in
    let some : 0 < c.in-Record.missing = omega (arith, other) in
    from-payload c.args.self c.in-Record.missing c.min-count.result c.args.bytes.now is some (omega arith) (omega arith)

pub returns-in-Length-clause-leads : goal.returns-in-Length-clause-leads
returns-in-Length-clause-leads c =
    let is : c.args.self ≡ state.Length c.in-Length.begun = cc in
    from-length c.args.self c.more.result c.in-Length.begun c.args.bytes.now is c.requires c.more.ensures

pub returns-in-NoLength-clause-leads : goal.returns-in-NoLength-clause-leads
returns-in-NoLength-clause-leads c = from-nowhere c.args.self _ c.in-NoLength.is
