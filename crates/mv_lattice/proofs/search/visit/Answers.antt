use Rattle.std.proofs.Common.{◌≡◌, ℕ, ◌<◌, arith, List, length, get_or, Option, Some, Err, All, sym, ◌∙◌, ap, subst}
use Rattle.std.proofs.lemmas.Result.{on_ok_weaker, err_from_is_err_and}
use Rattle.std.proofs.lemmas.Option.{slice_get-get_or}
use Rattle.mv_lattice.specs.Flow.{IsStated}
use Rattle.mv_lattice.specs.declared.search.SolveError.TheVariants.{Need, TooComplex}
use Rattle.mv_lattice.specs.Work.{search_of}
use Rattle.mv_lattice.proofs.Searches.{block_there, visit_made, visit_exceeds, visit_fails}
use Rattle.mv_lattice.proofs.Rises.{unstated}
use Rattle.mv_lattice.proofs.search.visit.Goals as goal

-- the state that is stated at a place
stated_there : {S : Type 0} (states : List (Option S)) (n k : ℕ) (x : Option S) (s : S) → k < n → length states ≡ n → get_or states k x ≡ Some s → IsStated states k s
stated_there states n k x s inside entries is = let within : k < length states = omega (arith, inside, entries) in slice_get-get_or states k x within ∙ ap Some is

pub returns-clause-ok : goal.returns-clause-ok
returns-clause-ok g c =
    let d = c.args.d.now in
    let o = g.D.Domain.order d in
    let k = c.args.k in
    let b = c.index-block.result.now in
    let block = block_there c.args.g.now k b c.requires.inside c.index-block.ensures in
    let stated = stated_there c.args.states.now _ k c.index-states-k.result c.in-Some.s c.requires.inside c.requires.entries c.in-Some.is in
    on_ok_weaker c.raise_each.result
    (visit_made o c.args.g.now k b c.in-Some.s block c.in_ok-t.t (search_of c.args.states.now c.args.waiting.now) (search_of c.raise_each.new.states c.raise_each.new.waiting)
    stated (rw c.in_ok-begin.ensures at c.in_ok-t.ensures.ok))
    (rw c.deref.ensures.value at c.raise_each.ensures.ok)

pub returns-clause-exceeds : goal.returns-clause-exceeds
returns-clause-exceeds g c = λ e.
    let d = c.args.d.now in
    let o = g.D.Domain.order d in
    let k = c.args.k in
    let b = c.index-block.result.now in
    let block = block_there c.args.g.now k b c.requires.inside c.index-block.ensures in
    let stated = stated_there c.args.states.now _ k c.index-states-k.result c.in-Some.s c.requires.inside c.requires.entries c.in-Some.is in
    let h = (rw c.deref.ensures.value at c.raise_each.ensures.exceeds) e in
    visit_exceeds o c.args.g.now k b c.in-Some.s block c.in_ok-t.t c.args.states.now stated (rw c.in_ok-begin.ensures at c.in_ok-t.ensures.ok) h.0 h.1.0 h.1.1

pub returns-in_err-t-clause-fails : goal.returns-in_err-t-clause-fails
returns-in_err-t-clause-fails g c = λ e.
    let d = c.args.d.now in
    let o = g.D.Domain.order d in
    let k = c.args.k in
    let b = c.index-block.result.now in
    let block = block_there c.args.g.now k b c.requires.inside c.index-block.ensures in
    let stated = stated_there c.args.states.now _ k c.index-states-k.result c.in-Some.s c.requires.inside c.requires.entries c.in-Some.is in
    let p = err_from_is_err_and c.from_residual-in_err-t.result c.from_residual-in_err-t.ensures.1 in
    let need : p.0 ≡ Need = cc (p.1, e) in
    visit_fails o c.args.g.now k b c.in-Some.s block c.args.states.now stated (rw c.in_ok-begin.ensures at c.in_err-t.ensures.need (ap Err (p.2.0 need)))

pub returns-in_err-t-clause-exceeds : goal.returns-in_err-t-clause-exceeds
returns-in_err-t-clause-exceeds g c = λ e.
    let p = err_from_is_err_and c.from_residual-in_err-t.result c.from_residual-in_err-t.ensures.1 in
    let complex : p.0 ≡ TooComplex = cc (p.1, e) in
    absurd (p.2.1 complex)

pub returns-in_default : goal.returns-in_default
returns-in_default g c =
    let within : c.args.k < length c.args.states.now = omega (arith, c.requires.entries) in
    absurd (unstated c.args.states.now c.args.k c.index-states-k.result c.requires.stated.0 within c.in_default.is c.requires.stated.1)

pub copy-requires : goal.copy-requires
copy-requires g c =
    c.requires.states c.args.k c.in-Some.s (stated_there c.args.states.now _ c.args.k c.index-states-k.result c.in-Some.s c.requires.inside c.requires.entries c.in-Some.is)

pub carry-requires-clause-order : goal.carry-requires-clause-order
carry-requires-clause-order g c =
    let k = c.args.k in
    let b = c.index-block.result.now in
    c.requires.graph.starts k b (block_there c.args.g.now k b c.requires.inside c.index-block.ensures)

pub carry-requires-clause-inside : goal.carry-requires-clause-inside
carry-requires-clause-inside g c =
    let k = c.args.k in
    let b = c.index-block.result.now in
    c.requires.graph.ends k b (block_there c.args.g.now k b c.requires.inside c.index-block.ensures)

pub raise_each-requires-clause-inside : goal.raise_each-requires-clause-inside
raise_each-requires-clause-inside g c =
    let k = c.args.k in
    let b = c.index-block.result.now in
    let block = block_there c.args.g.now k b c.requires.inside c.index-block.ensures in
    subst (λ xs. All (λ n. n < length c.args.states.now) xs) (sym c.deref.ensures.value)
    (subst (λ m. All (λ n. n < m) b.successors.items) (sym c.requires.entries) (c.requires.graph.inside k b block))

pub raise_each-requires-clause-marked : goal.raise_each-requires-clause-marked
raise_each-requires-clause-marked g c = c.requires.marks ∙ sym c.requires.entries

pub raise_each-requires-clause-state : goal.raise_each-requires-clause-state
raise_each-requires-clause-state g c = c.in_ok-t.ensures.state

pub raise_each-requires-clause-states : goal.raise_each-requires-clause-states
raise_each-requires-clause-states g c = c.requires.states

pub returns-clause-fails : goal.returns-clause-fails
returns-clause-fails g c = λ e. absurd (c.raise_each.ensures.need e)
