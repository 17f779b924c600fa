use Rattle.std.proofs.Common.{◌≡◌, ◌∙◌, ◌+◌, ◌-◌, ◌<◌, sym, arith}
use Rattle.std.proofs.lemmas.Result.{err_from_is_err_and}
use Rattle.mv_lattice.specs.Flow.{carried, through}
use Rattle.mv_lattice.proofs.Flows.{carried_none, carried_some}
use Rattle.mv_lattice.proofs.flow.carry.Goals as goal
use Rattle.mv_lattice.proofs.flow.carry.Goals.{else-loop-at-test, then-loop-at-test+in_ok-s+else-at-at-end}

pub step-requires-clause-state : goal.step-requires-clause-state
step-requires-clause-state g c = c.loop-at.invariant.0

pub loop-at-preserved : goal.loop-at-preserved
loop-at-preserved g c =
    let d = c.args.d.now in
    let o = g.D.Domain.order d in
    let at = c.loop-at.at in
    let inside : at < o.size = omega (arith, c.requires.inside) in
    let step = c.in_ok-s.ensures.ok in (
      (g.met.D.Domain.laws d).keeps at c.loop-at.s c.in_ok-s.s inside c.loop-at.invariant.0 step,
      carried_some o.steps at c.args.block.now.last c.loop-at.s c.in_ok-s.s (omega arith) step ∙ c.loop-at.invariant.1,
    )

pub returns-in_err-s-clause-need : goal.returns-in_err-s-clause-need
returns-in_err-s-clause-need g c = λ e.
    let r = err_from_is_err_and c.from_residual.result c.from_residual.ensures.1 in
    let none = c.in_err-s.ensures.need (cc (r.1, r.2, e)) in
    sym c.loop-at.invariant.1 ∙ carried_none (g.D.Domain.order c.args.d.now).steps c.loop-at.at c.args.block.now.last c.loop-at.s (omega arith) none

pub returns-clause-ok : goal.returns-clause-ok
returns-clause-ok g c =
    let o = g.D.Domain.order c.args.d.now in
    let at = c.loop-at.at in
    elim c.loop-at-test.branch [
      | else-loop-at-test w ↦ absurd (omega arith)
      | then-loop-at-test+in_ok-s+else-at-at-end w ↦
          let over : c.args.block.now.last + 1 - (at + 1) ≡ 0 = omega arith in
          let step : carried o.steps (at + 1) (c.args.block.now.last + 1 - (at + 1)) w.in_ok-s.s ≡ through o.steps c.args.block.now c.args.s =
          carried_some o.steps at c.args.block.now.last c.loop-at.s w.in_ok-s.s (omega arith) w.in_ok-s.ensures.ok ∙ c.loop-at.invariant.1 in
          rw w.s-is (sym (rw over at step))
    ]
