use Rattle.std.proofs.Common.{◌≡◌, ◌<◌, length, get_or, take, ◌++◌, ◌∷◌, [], ◌+◌, Contains, subst, sym, arith}
use Rattle.std.proofs.lemmas.List.{take_more, take_all}
use Rattle.std.proofs.lemmas.List.Elements.{Contains-get_or}
use Rattle.std.proofs.lemmas.Result.{err_from_is_err_and}
use Rattle.mv_lattice.specs.Search.{FlowsIntoEach}
use Rattle.mv_lattice.specs.Work.{search_of}
use Rattle.mv_lattice.proofs.Searches.{flows_none, flows_more, flows_valid, exceeds_before}
use Rattle.mv_lattice.proofs.search.raise_all.Goals as goal

pub loop-n-init : goal.loop-n-init
loop-n-init g c =
    let d = c.args.d.now in
    flows_none (g.met.D.Domain.laws d) c.args.t.now c.requires.state (search_of c.args.states.now c.args.waiting.now)

pub loop-n-preserved : goal.loop-n-preserved
loop-n-preserved g c =
    let d = c.args.d.now in
    let o = g.D.Domain.order d in
    let n = get_or c.args.blocks.now c.loop-n.n-index 0 in
    let xs = take c.loop-n.n-index c.args.blocks.now in
    let more : take (c.loop-n.n-index + 1) c.args.blocks.now ≡ xs ++ (n ∷ []) = take_more c.args.blocks.now c.loop-n.n-index 0 c.loop-n-test.true in
    subst (λ zs. FlowsIntoEach o (Contains zs) c.args.t.now (search_of c.args.states.now c.args.waiting.now) (search_of c.raise.new.states c.raise.new.waiting)) (sym more)
    (flows_more (g.met.D.Domain.laws d) c.args.t.now c.requires.state xs n (search_of c.args.states.now c.args.waiting.now) (search_of c.loop-n.states c.loop-n.waiting) (search_of c.raise.new.states c.raise.new.waiting)
    c.requires.states c.loop-n.invariant c.in_ok-raise.ensures.ok)

pub returns-in_err-raise-clause-exceeds : goal.returns-in_err-raise-clause-exceeds
returns-in_err-raise-clause-exceeds g c = λ e.
    let d = c.args.d.now in
    let n = get_or c.args.blocks.now c.loop-n.n-index 0 in
    let xs = take c.loop-n.n-index c.args.blocks.now in
    let p = err_from_is_err_and c.from_residual.result c.from_residual.ensures.1 in
    let here = c.in_err-raise.ensures.exceeds (cc (p.1, p.2, e)) in (
      n,
      (
        Contains-get_or c.args.blocks.now c.loop-n.n-index 0 c.loop-n-test.true,
        exceeds_before (g.met.D.Domain.laws d) c.args.t.now c.requires.state xs n (search_of c.args.states.now c.args.waiting.now) (search_of c.loop-n.states c.loop-n.waiting) c.requires.states c.loop-n.invariant here,
      ),
    )

pub raise-requires-clause-inside : goal.raise-requires-clause-inside
raise-requires-clause-inside g c =
    let low : get_or c.args.blocks.now c.loop-n.n-index 0 < length c.args.states.now = c.requires.inside c.loop-n.n-index 0 c.loop-n-test.true in
    omega (arith, low, c.loop-n.auto.states)

pub raise-requires-clause-marked : goal.raise-requires-clause-marked
raise-requires-clause-marked g c =
    let low : get_or c.args.blocks.now c.loop-n.n-index 0 < length c.args.states.now = c.requires.inside c.loop-n.n-index 0 c.loop-n-test.true in
    omega (arith, low, c.requires.marked, c.loop-n.auto.waiting)

pub raise-requires-clause-state : goal.raise-requires-clause-state
raise-requires-clause-state g c = c.requires.state

pub raise-requires-clause-states : goal.raise-requires-clause-states
raise-requires-clause-states g c =
    let d = c.args.d.now in
    flows_valid (g.met.D.Domain.laws d) c.args.t.now c.requires.state (take c.loop-n.n-index c.args.blocks.now) (search_of c.args.states.now c.args.waiting.now) (search_of c.loop-n.states c.loop-n.waiting) c.requires.states c.loop-n.invariant

pub returns-in_err-raise-clause-need : goal.returns-in_err-raise-clause-need
returns-in_err-raise-clause-need g c = λ e.
    let p = err_from_is_err_and c.from_residual.result c.from_residual.ensures.1 in c.in_err-raise.ensures.need (cc (p.1, p.2, e))

pub returns-clause-ok : goal.returns-clause-ok
returns-clause-ok g c =
    let d = c.args.d.now in
    let o = g.D.Domain.order d in
    subst (λ zs. FlowsIntoEach o (Contains zs) c.args.t.now (search_of c.args.states.now c.args.waiting.now) (search_of c.loop-n.states c.loop-n.waiting))
    (take_all c.loop-n.n-index c.args.blocks.now c.loop-n-test.false) c.loop-n.invariant
