use Rattle.std.proofs.Common.{arith}
use Rattle.std.proofs.lemmas.Result.{err_from_is_err_and}
use Rattle.mv_lattice.proofs.search.search_flow.Goals as goal

pub loop-k-init : goal.loop-k-init
loop-k-init g c = record { search = λ start has. has; rest = λ j low. absurd (omega (arith, low)) }

pub loop-k-preserved : goal.loop-k-preserved
loop-k-preserved g c = record { search = λ start has. c.in_ok-from.ensures.search start (c.loop-k.invariant.search start has); rest = c.in_ok-from.ensures.rest }

pub returns-in_err-from-clause-fails : goal.returns-in_err-from-clause-fails
returns-in_err-from-clause-fails g c = λ e start has.
    let p = err_from_is_err_and c.from_residual.result c.from_residual.ensures.1 in
    c.in_err-from.ensures.fails (cc (p.1, p.2, e)) start (c.loop-k.invariant.search start has)

pub returns-in_err-from-clause-limit : goal.returns-in_err-from-clause-limit
returns-in_err-from-clause-limit g c = λ e start has.
    let p = err_from_is_err_and c.from_residual.result c.from_residual.ensures.1 in
    c.in_err-from.ensures.limit (cc (p.1, p.2, e)) start (c.loop-k.invariant.search start has)

pub turn-requires-clause-graph : goal.turn-requires-clause-graph
turn-requires-clause-graph g c = c.requires.graph

pub turn-requires-clause-same : goal.turn-requires-clause-same
turn-requires-clause-same g c = c.requires.same

pub turn-requires-clause-next : goal.turn-requires-clause-next
turn-requires-clause-next g c = record { waits = c.in-Some.ensures.some; first = c.in-Some.ensures.first }

pub turn-requires-clause-marks : goal.turn-requires-clause-marks
turn-requires-clause-marks g c = omega (arith, c.loop-k.auto.waiting, c.requires.marks)

pub turn-requires-clause-lefts : goal.turn-requires-clause-lefts
turn-requires-clause-lefts g c = omega (arith, c.loop-k.auto.left, c.requires.lefts)

pub turn-requires-clause-search : goal.turn-requires-clause-search
turn-requires-clause-search g c =
    let u = c.requires.search in
    record { start = u.start; valid = u.valid; begins = u.begins; search = c.loop-k.invariant.search u.start u.search }
