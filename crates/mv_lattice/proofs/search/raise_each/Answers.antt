use Rattle.std.proofs.Common.{◌∙◌, ◌<◌, [], length, take, drop, sym, subst, arith, All, Contains}
use Rattle.std.proofs.lemmas.List.{append-nil, take_all, take_rest, take-append-drop}
use Rattle.std.proofs.lemmas.List.Elements.{All-drop, Contains-append_right}
use Rattle.std.proofs.lemmas.Result.{on_ok_weaker}
use Rattle.mv_lattice.specs.Search.{FlowsIntoEach, ExceedsAt}
use Rattle.mv_lattice.specs.Work.{search_of}
use Rattle.mv_lattice.proofs.Searches.{flows_none, flows_after}
use Rattle.mv_lattice.proofs.search.raise_each.Goals as goal

pub returns-then-above-blocks-clause-ok : goal.returns-then-above-blocks-clause-ok
returns-then-above-blocks-clause-ok g c =
    let d = c.args.d.now in
    let blocks = c.args.blocks.now in
    let above = c.count_above-above.result in
    let x = search_of c.args.states.now c.args.waiting.now in
    flows_after (g.met.D.Domain.laws d) c.args.t.now c.requires.state (take above blocks) [] blocks x x (append-nil (take above blocks) ∙ take_all above blocks (omega (arith, c.if-above-blocks.true)))
    c.count_above-above.ensures.above (flows_none (g.met.D.Domain.laws d) c.args.t.now c.requires.state x)

pub returns-clause-ok : goal.returns-clause-ok
returns-clause-ok g c =
    let d = c.args.d.now in
    let o = g.D.Domain.order d in
    let blocks = c.args.blocks.now in
    let above = c.count_above-above.result in
    let x = search_of c.args.states.now c.args.waiting.now in
    let y = search_of c.raise_all.new.states c.raise_all.new.waiting in
    on_ok_weaker c.raise_all.result
    (λ flows. flows_after (g.met.D.Domain.laws d) c.args.t.now c.requires.state (take above blocks) (drop above blocks) blocks x y (take-append-drop above blocks) c.count_above-above.ensures.above
    (subst (λ s. FlowsIntoEach o (Contains (drop above blocks)) s x y) c.in_ok-copied.ensures
    (subst (λ ns. FlowsIntoEach o (Contains ns) c.in_ok-copied.copied x y) (take_rest blocks above) flows)))
    c.raise_all.ensures.ok

pub returns-clause-exceeds : goal.returns-clause-exceeds
returns-clause-exceeds g c = λ e.
    let o = g.D.Domain.order c.args.d.now in
    let blocks = c.args.blocks.now in
    let above = c.count_above-above.result in
    let h = c.raise_all.ensures.exceeds e in
    let there : Contains (drop above blocks) h.0 = subst (λ ns. Contains ns h.0) (take_rest blocks above) h.1.0 in (
      h.0,
      (
        subst (λ ns. Contains ns h.0) (take-append-drop above blocks) (Contains-append_right (take above blocks) (drop above blocks) h.0 there),
        subst (λ s. ExceedsAt o s h.0 c.args.states.now) c.in_ok-copied.ensures h.1.1,
      ),
    )

pub raise_all-requires-clause-inside : goal.raise_all-requires-clause-inside
raise_all-requires-clause-inside g c =
    let blocks = c.args.blocks.now in
    let above = c.count_above-above.result in
    subst (All (λ n. n < length c.args.states.now)) (sym (take_rest blocks above)) (All-drop (λ n. n < length c.args.states.now) above blocks c.requires.inside)

pub raise_all-requires-clause-state : goal.raise_all-requires-clause-state
raise_all-requires-clause-state g c = subst (g.D.Domain.order c.args.d.now).is_state (sym c.in_ok-copied.ensures) c.requires.state
