use Rattle.std.proofs.Common.{get_or, Some, ◌∙◌, ap}
use Rattle.std.proofs.lemmas.Option.{slice_get-get_or}
use Rattle.std.proofs.lemmas.Result.{err_from_is_err_and}
use Rattle.mv_lattice.proofs.Searches.{flows_stays, flows_rises, exceeds_at}
use Rattle.mv_lattice.proofs.search.raise.Goals as goal

pub returns-in-Some-clause-ok : goal.returns-in-Some-clause-ok
returns-in-Some-clause-ok g c =
    let d = c.args.d.now in
    let o = g.D.Domain.order d in
    let new = rw c.in-Some.is at c.in_ok-u.ensures.ok in
    flows_rises o c.args.t.now c.args.n (get_or c.args.states.now c.args.n c.index-states-n.result) c.in-Some.u c.args.states.now c.args.waiting.now
    c.requires.inside c.requires.marked (slice_get-get_or c.args.states.now c.args.n c.index-states-n.result c.requires.inside) new.0 new.1

pub returns-in_default-clause-ok : goal.returns-in_default-clause-ok
returns-in_default-clause-ok g c =
    let d = c.args.d.now in
    let o = g.D.Domain.order d in
    let h = rw c.in_default.is at c.in_ok-u.ensures.ok in
    flows_stays o c.args.t.now c.args.n h.0 c.args.states.now c.args.waiting.now
    (slice_get-get_or c.args.states.now c.args.n c.index-states-n.result c.requires.inside ∙ ap Some h.1.0)
    h.1.1

pub joined-requires-clause-state : goal.joined-requires-clause-state
joined-requires-clause-state g c = c.requires.state

pub joined-requires-clause-old_state : goal.joined-requires-clause-old_state
joined-requires-clause-old_state g c = λ s e.
    c.requires.states c.args.n s (slice_get-get_or c.args.states.now c.args.n c.index-states-n.result c.requires.inside ∙ ap Some e)

pub returns-in_err-u-clause-need : goal.returns-in_err-u-clause-need
returns-in_err-u-clause-need g c = λ e.
    let p = err_from_is_err_and c.from_residual.result c.from_residual.ensures.1 in c.in_err-u.ensures.need (cc (p.1, p.2, e))

pub returns-in_err-u-clause-exceeds : goal.returns-in_err-u-clause-exceeds
returns-in_err-u-clause-exceeds g c = λ e.
    let d = c.args.d.now in
    let o = g.D.Domain.order d in
    let p = err_from_is_err_and c.from_residual.result c.from_residual.ensures.1 in
    exceeds_at o c.args.t.now c.args.n (get_or c.args.states.now c.args.n c.index-states-n.result) c.args.states.now
    (slice_get-get_or c.args.states.now c.args.n c.index-states-n.result c.requires.inside) (c.in_err-u.ensures.exceeds (cc (p.1, p.2, e)))
