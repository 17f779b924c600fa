use Rattle.std.proofs.Common.{◌∙◌, sym, subst}
use Rattle.std.proofs.lemmas.Bool.{false≢true}
use Rattle.std.proofs.lemmas.Result.{err_from_is_err_and}
use Rattle.mv_lattice.proofs.Searches.{nothing_raised, state_raised}
use Rattle.mv_lattice.proofs.search.joined.Goals as goal

pub returns-in_err-small-in-None-clause-exceeds : goal.returns-in_err-small-in-None-clause-exceeds
returns-in_err-small-in-None-clause-exceeds g c = λ e.
    let d = c.args.d.now in
    let o = g.D.Domain.order d in
    let p = err_from_is_err_and c.from_residual-in_err-small-in-None.result c.from_residual-in_err-small-in-None.ensures.1 in (
      c.in_ok-copy-in-None.field-0,
      (
        nothing_raised o c.args.t.now c.args.old.now c.in_ok-copy-in-None.field-0 c.in-None.is c.in_ok-copy-in-None.ensures,
        c.in_err-small-in-None.ensures.large (cc (p.1, p.2, e)),
      ),
    )

pub returns-in_err-small-in-Some-clause-exceeds : goal.returns-in_err-small-in-Some-clause-exceeds
returns-in_err-small-in-Some-clause-exceeds g c = λ e.
    let d = c.args.d.now in
    let o = g.D.Domain.order d in
    let p = err_from_is_err_and c.from_residual-in_err-small-in-Some.result c.from_residual-in_err-small-in-Some.ensures.1 in (
      c.in_ok-join-in-Some.field-0,
      (
        state_raised o c.in-Some.s c.args.t.now c.args.old.now c.in_ok-join-in-Some.field-0 c.in-Some.is
            (λ above. false≢true (sym c.if-leq.false ∙ c.leq.ensures.1 above)) c.in_ok-join-in-Some.ensures.join,
        c.in_err-small-in-Some.ensures.large (cc (p.1, p.2, e)),
      ),
    )

pub returns-in_ok-small-in-None-clause-ok : goal.returns-in_ok-small-in-None-clause-ok
returns-in_ok-small-in-None-clause-ok g c =
    let d = c.args.d.now in
    let o = g.D.Domain.order d in
    let is = c.in_ok-small-in-None.ensures.ok in (
      nothing_raised o c.args.t.now c.args.old.now c.in_ok-small-in-None.field-0 c.in-None.is (is.0 ∙ c.in_ok-copy-in-None.ensures),
      subst o.is_small (sym is.0) is.1,
    )

pub returns-in_ok-small-in-Some-clause-ok : goal.returns-in_ok-small-in-Some-clause-ok
returns-in_ok-small-in-Some-clause-ok g c =
    let d = c.args.d.now in
    let o = g.D.Domain.order d in
    let is = c.in_ok-small-in-Some.ensures.ok in (
      state_raised o c.in-Some.s c.args.t.now c.args.old.now c.in_ok-small-in-Some.field-0 c.in-Some.is
          (λ above. false≢true (sym c.if-leq.false ∙ c.leq.ensures.1 above)) (is.0 ∙ c.in_ok-join-in-Some.ensures.join),
      subst o.is_small (sym is.0) is.1,
    )
