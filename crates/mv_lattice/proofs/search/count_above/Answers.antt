use Rattle.std.proofs.Common.{◌∙◌, ◌<◌, length, ap, Some, get_or, All, subst, sym, refl, arith}
use Rattle.std.proofs.lemmas.List.{take_all}
use Rattle.std.proofs.lemmas.List.Elements.{All-more}
use Rattle.std.proofs.lemmas.Option.{slice_get_read}
use Rattle.mv_lattice.specs.Flow.{IsStated}
use Rattle.mv_lattice.proofs.search.count_above.Goals as goal

pub loop-i-preserved : goal.loop-i-preserved
loop-i-preserved g c =
    let o = g.D.Domain.order c.args.d.now in
    let states = c.args.states.now in
    let n = get_or c.args.blocks.now c.loop-i.i 0 in
    let within : n < length states = c.requires.inside c.loop-i.i 0 c.loop-i-test.true in
    let s = c.is_above.ensures c.if-not-is_above.false in
    All-more (λ n. (s : g.row.D-State.Denot) × (IsStated states n s × o.below c.args.t.now s)) c.args.blocks.now c.loop-i.i 0 c.loop-i-test.true c.loop-i.invariant
    (s.0, (slice_get_read states (length states) n c.index-states-n.result refl within c.index-states-n.is ∙ ap Some s.1.0, s.1.1))

pub returns-clause-above : goal.returns-clause-above
returns-clause-above g c =
    let o = g.D.Domain.order c.args.d.now in
    let blocks = c.args.blocks.now in
    subst (λ ns. All (λ n. (s : g.row.D-State.Denot) × (IsStated c.args.states.now n s × o.below c.args.t.now s)) ns)
    (take_all c.loop-i.i blocks c.loop-i-test.false ∙ sym (take_all _ blocks (omega arith))) c.loop-i.invariant
