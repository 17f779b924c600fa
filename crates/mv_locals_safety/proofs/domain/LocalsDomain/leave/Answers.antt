use Rattle.std.proofs.Common.{◌++◌, true, false, refl}
use Rattle.mv_locals_safety.proofs.Tables.{return_known}
use Rattle.mv_locals_safety.proofs.domain.LocalsDomain.leave.Goals as goal

pub returns-then-not-may_all_remain : goal.returns-then-not-may_all_remain
returns-then-not-may_all_remain c = (
  refl,
  return_known c.args.self.now c.self.inside.bounded.now c.self.inside.function.now (c.self.inside.parameters.now ++ c.self.inside.others.now) (c.self.inside.parameters.now ++ c.self.inside.others.now) c.args.s.now c.as_slice.result.now false c.may_all_remain.result
      c.self.view_is c.self.invariant.2 refl c.as_slice.ensures c.may_all_remain.ensures c.if-not-may_all_remain.true,
)

pub returns : goal.returns
returns c =
    return_known c.args.self.now c.self.inside.bounded.now c.self.inside.function.now (c.self.inside.parameters.now ++ c.self.inside.others.now) (c.self.inside.parameters.now ++ c.self.inside.others.now) c.args.s.now c.as_slice.result.now true c.may_all_remain.result
    c.self.view_is c.self.invariant.2 refl c.as_slice.ensures c.may_all_remain.ensures c.if-not-may_all_remain.false
