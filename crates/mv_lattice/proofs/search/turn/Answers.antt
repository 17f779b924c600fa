use Rattle.std.proofs.Common.{◌≡◌, ℕ, ◌<◌, ◌≤◌, All, Bool, List, arith, subst, length, get_or, ◌∙◌, true, false}
use Rattle.std.proofs.lemmas.List.{length-set}
use Rattle.std.proofs.lemmas.Option.{slice_get-get_or, slice_get_within}
use Rattle.std.proofs.lemmas.Result.{err_from_is_err_and}
use Rattle.mv_lattice.specs.Flow.{IsAt}
use Rattle.mv_lattice.specs.Work.{search_of}
use Rattle.mv_lattice.proofs.Found.{reached_states, reached_active, reached_entries}
use Rattle.mv_lattice.proofs.Rises.{fewer_left}
use Rattle.mv_lattice.proofs.Searches.{block_there, rests_before, turn_over, turn_exceeds, turn_fails, turn_done}
use Rattle.mv_lattice.proofs.search.turn.Goals as goal

-- how many visits are left of a block that waits
left_there : (waiting : List Bool) (left : List ℕ) (n k : ℕ) → IsAt waiting k true → length left ≡ n → length waiting ≡ n → IsAt left k (get_or left k 0)
left_there waiting left n k waits lefts marks =
    let low : k < length waiting = slice_get_within waiting k true waits in
    let within : k < length left = omega (arith, low, lefts, marks) in
    slice_get-get_or left k 0 within

pub returns-then-left-k-eq0-clause-limit : goal.returns-then-left-k-eq0-clause-limit
returns-then-left-k-eq0-clause-limit g c = λ _ start has.
    let d = c.args.d.now in
    let o = g.D.Domain.order d in
    let k = c.args.k in
    let l = get_or c.args.left.now k 0 in
    let left = left_there c.args.waiting.now c.args.left.now _ k c.requires.next.waits c.requires.lefts c.requires.marks in
    turn_over o c.args.g.now start c.args.left.now c.args.states.now c.args.waiting.now has k l c.requires.next.waits c.requires.next.first left c.if-left-k-eq0.true

pub returns-clause-search : goal.returns-clause-search
returns-clause-search g c = λ start has.
    let o = g.D.Domain.order c.args.d.now in
    let k = c.args.k in
    let l = get_or c.args.left.now k 0 in
    let left = left_there c.args.waiting.now c.args.left.now _ k c.requires.next.waits c.requires.lefts c.requires.marks in
    let some : 0 < l = omega (arith, c.if-left-k-eq0.false) in
    turn_done o c.args.g.now start c.args.left.now c.args.states.now c.args.waiting.now has k l c.requires.next.waits c.requires.next.first left some c.visit.new.states c.visit.new.waiting c.in_ok-visit.ensures.ok

pub returns-clause-rest : goal.returns-clause-rest
returns-clause-rest g c =
    let o = g.D.Domain.order c.args.d.now in
    let k = c.args.k in
    let in' : k < length c.args.waiting.now = slice_get_within c.args.waiting.now k true c.requires.next.waits in
    let block = c.index.result.now in
    rests_before o c.args.g.now k c.least_of.result block (block_there c.args.g.now k block (omega (arith, in', c.requires.marks)) c.index.ensures) c.least_of.ensures.own (subst (All (λ n. c.least_of.result ≤ n)) c.deref.ensures.value c.least_of.ensures.each)
    (search_of c.args.states.now c.args.waiting.now) (search_of c.visit.new.states c.visit.new.waiting) c.requires.next.first c.in_ok-visit.ensures.ok

pub returns-in_err-visit-clause-fails : goal.returns-in_err-visit-clause-fails
returns-in_err-visit-clause-fails g c = λ e start has.
    let p = err_from_is_err_and c.from_residual.result c.from_residual.ensures.1 in
    let o = g.D.Domain.order c.args.d.now in
    let k = c.args.k in
    let l = get_or c.args.left.now k 0 in
    let left = left_there c.args.waiting.now c.args.left.now _ k c.requires.next.waits c.requires.lefts c.requires.marks in
    let some : 0 < l = omega (arith, c.if-left-k-eq0.false) in
    turn_fails o c.args.g.now start c.args.left.now c.args.states.now c.args.waiting.now has k l c.requires.next.waits c.requires.next.first left some (c.in_err-visit.ensures.fails (cc (p.1, p.2, e)))

pub returns-in_err-visit-clause-limit : goal.returns-in_err-visit-clause-limit
returns-in_err-visit-clause-limit g c = λ e start has.
    let p = err_from_is_err_and c.from_residual.result c.from_residual.ensures.1 in
    let o = g.D.Domain.order c.args.d.now in
    let k = c.args.k in
    let l = get_or c.args.left.now k 0 in
    let left = left_there c.args.waiting.now c.args.left.now _ k c.requires.next.waits c.requires.lefts c.requires.marks in
    let some : 0 < l = omega (arith, c.if-left-k-eq0.false) in
    turn_exceeds o c.args.g.now start c.args.left.now c.args.states.now c.args.waiting.now has k l c.requires.next.waits c.requires.next.first left some (c.in_err-visit.ensures.exceeds (cc (p.1, p.2, e)))

pub returns-clause-fewer : goal.returns-clause-fewer
returns-clause-fewer g c =
    let k = c.args.k in
    let in' : k < length c.args.waiting.now = slice_get_within c.args.waiting.now k true c.requires.next.waits in
    let within : k < length c.args.left.now = omega (arith, in', c.requires.lefts, c.requires.marks) in
    fewer_left c.args.left.now k within (omega (arith, c.if-left-k-eq0.false))

pub visit-requires-clause-graph : goal.visit-requires-clause-graph
visit-requires-clause-graph g c = c.requires.graph

pub visit-requires-clause-inside : goal.visit-requires-clause-inside
visit-requires-clause-inside g c =
    let in' : c.args.k < length c.args.waiting.now = slice_get_within c.args.waiting.now c.args.k true c.requires.next.waits in
    omega (arith, in', c.requires.marks)

pub visit-requires-clause-entries : goal.visit-requires-clause-entries
visit-requires-clause-entries g c =
    let d = c.args.d.now in
    let u = c.requires.search in
    reached_entries (g.met.D.Domain.laws d) c.args.g.now c.requires.graph c.requires.same u.start u.valid u.begins u.search.visited (search_of c.args.states.now c.args.waiting.now) u.search.reached

pub visit-requires-clause-marks : goal.visit-requires-clause-marks
visit-requires-clause-marks g c = length-set c.args.waiting.now c.args.k false ∙ c.requires.marks

pub visit-requires-clause-states : goal.visit-requires-clause-states
visit-requires-clause-states g c =
    let d = c.args.d.now in
    let u = c.requires.search in
    reached_states (g.met.D.Domain.laws d) c.args.g.now c.requires.graph c.requires.same u.start u.valid u.begins u.search.visited (search_of c.args.states.now c.args.waiting.now) u.search.reached

pub visit-requires-clause-stated : goal.visit-requires-clause-stated
visit-requires-clause-stated g c =
    let d = c.args.d.now in
    let u = c.requires.search in
    reached_active (g.met.D.Domain.laws d) c.args.g.now c.requires.graph c.requires.same u.start u.valid u.begins u.search.visited (search_of c.args.states.now c.args.waiting.now) u.search.reached c.args.k c.requires.next.waits
