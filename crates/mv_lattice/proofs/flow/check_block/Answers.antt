use Rattle.std.proofs.Common.{◌≡◌, ◌∙◌, sym, Some}
use Rattle.std.proofs.lemmas.Bool.{false≢true}
use Rattle.mv_lattice.specs.Flow.{through}
use Rattle.mv_lattice.proofs.flow.check_block.Goals as goal

pub returns-then-is_below_each-clause-ok : goal.returns-then-is_below_each-clause-ok
returns-then-is_below_each-clause-ok g c =
    (c.in_ok-t.t, (rw c.in_ok-begin.ensures at c.in_ok-t.ensures.ok, rw c.deref.ensures.value at c.is_below_each.ensures.0 c.if-is_below_each.true))

pub returns-clause-need : goal.returns-clause-need
returns-clause-need g c = λ _ closed.
    let out : through (g.D.Domain.order c.args.d.now).steps c.args.block.now c.args.s.now ≡ Some c.in_ok-t.t = rw c.in_ok-begin.ensures at c.in_ok-t.ensures.ok in
    let same : closed.0 ≡ c.in_ok-t.t = cc (out, closed.1.0) in
    false≢true (sym c.if-is_below_each.false ∙ c.is_below_each.ensures.1 (rw c.deref.ensures.value (rw same at closed.1.1)))
