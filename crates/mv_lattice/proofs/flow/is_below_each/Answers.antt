use Rattle.std.proofs.Common.{◌<◌, length, arith, subst, get_or, refl}
use Rattle.std.proofs.lemmas.List.{take_all}
use Rattle.std.proofs.lemmas.Option.{slice_get_read}
use Rattle.mv_lattice.specs.Flow.{IsBelowEach, IsStated}
use Rattle.mv_lattice.proofs.Flows.{each_some, each_none}
use Rattle.mv_lattice.proofs.flow.is_below_each.Goals as goal
use Rattle.mv_lattice.proofs.flow.is_below_each.Goals.{in-Some+else-not-leq, in_default}

pub loop-n-preserved : goal.loop-n-preserved
loop-n-preserved g c =
    let below = (g.D.Domain.order c.args.d.now).below c.args.t.now in
    let flow = c.args.flow.now in
    let i = c.loop-n.n-index in
    let n = get_or c.args.blocks.now i 0 in
    let within : n < length flow = c.requires.inside i 0 c.loop-n-test.true in
    let read = slice_get_read flow (length flow) n c.index-flow-n.result refl within c.index-flow-n.is in
    elim c.match-flow-n.branch [
      | in-Some+else-not-leq w ↦
          let stated : IsStated flow n w.in-Some.u = cc (read, w.in-Some.is) in
          each_some below flow c.args.blocks.now i n w.in-Some.u c.loop-n-test.true refl stated (w.leq.ensures.0 w.if-not-leq.false) c.loop-n.invariant
      | in_default w ↦ each_none below flow c.args.blocks.now i n c.loop-n-test.true refl (cc (read, w.in_default.is)) c.loop-n.invariant
    ]

pub returns : goal.returns
returns g c =
    let each = subst (λ xs. IsBelowEach (g.D.Domain.order c.args.d.now) c.args.flow.now xs c.args.t.now) (take_all c.loop-n.n-index c.args.blocks.now (omega arith)) c.loop-n.invariant in
    (λ _. each, λ _. refl)
