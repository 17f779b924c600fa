use Rattle.std.proofs.Common.{◌≡◌, length, replicate, ◌∙◌, sym, ap, subst, arith, drop, true, false}
use Rattle.std.proofs.lemmas.List.{take_at, length-set, length-replicate}
use Rattle.std.proofs.lemmas.Result.{err_from_is_err_and}
use Rattle.mv_lattice.specs.Search.{EndsWith}
use Rattle.mv_lattice.specs.Work.{IsSearch}
use Rattle.mv_lattice.proofs.Searches.{search_begins, search_ends}
use Rattle.mv_lattice.proofs.search.solve.Goals as goal

pub search_flow-requires-clause-marks : goal.search_flow-requires-clause-marks
search_flow-requires-clause-marks g c =
    let n_is : c.len-n.result ≡ length c.args.g.now.blocks.items = omega (arith, c.len-n.ensures, c.args.g.now.blocks.ok.0) in
    ap length (c.deref_mut-2.ensures.value ∙ c.in_ok-waiting.ensures) ∙ length-set (replicate c.len-n.result false) 0 true ∙ length-replicate c.len-n.result false ∙ n_is

pub search_flow-requires-clause-search : goal.search_flow-requires-clause-search
search_flow-requires-clause-search g c =
    let d = c.args.d.now in
    let o = g.D.Domain.order d in
    let n_is : c.len-n.result ≡ length c.args.g.now.blocks.items = omega (arith, c.len-n.ensures, c.args.g.now.blocks.ok.0) in
    let s_is : c.in_ok-first.first ≡ c.args.start.now = c.in_ok-first.ensures.ok.0 ∙ c.in_ok-copy.ensures in
    let small : o.is_small c.args.start.now = subst o.is_small c.in_ok-copy.ensures c.in_ok-first.ensures.ok.1 in
    let has : IsSearch o c.args.g.now c.args.start.now c.deref_mut-3.result.now c.deref_mut.result.now c.deref_mut-2.result.now =
    search_begins o c.args.g.now c.args.start.now c.in_ok-first.first c.len-n.result c.deref_mut.result.now c.deref_mut-2.result.now c.deref_mut-3.result.now n_is s_is small
    (c.deref_mut.ensures.value ∙ c.in_ok-states.ensures) (c.deref_mut-2.ensures.value ∙ c.in_ok-waiting.ensures) (c.deref_mut-3.ensures.value ∙ c.in_ok-left.ensures) in
    record { start = c.args.start.now; valid = c.requires.start; begins = c.requires.begins; search = has }

pub returns-in_err-search_flow-clause-fails : goal.returns-in_err-search_flow-clause-fails
returns-in_err-search_flow-clause-fails g c = λ e.
    let d = c.args.d.now in
    let o = g.D.Domain.order d in
    let n_is : c.len-n.result ≡ length c.args.g.now.blocks.items = omega (arith, c.len-n.ensures, c.args.g.now.blocks.ok.0) in
    let s_is : c.in_ok-first.first ≡ c.args.start.now = c.in_ok-first.ensures.ok.0 ∙ c.in_ok-copy.ensures in
    let small : o.is_small c.args.start.now = subst o.is_small c.in_ok-copy.ensures c.in_ok-first.ensures.ok.1 in
    let has : IsSearch o c.args.g.now c.args.start.now c.deref_mut-3.result.now c.deref_mut.result.now c.deref_mut-2.result.now =
    search_begins o c.args.g.now c.args.start.now c.in_ok-first.first c.len-n.result c.deref_mut.result.now c.deref_mut-2.result.now c.deref_mut-3.result.now n_is s_is small
    (c.deref_mut.ensures.value ∙ c.in_ok-states.ensures) (c.deref_mut-2.ensures.value ∙ c.in_ok-waiting.ensures) (c.deref_mut-3.ensures.value ∙ c.in_ok-left.ensures) in
    let p = err_from_is_err_and c.from_residual-in_err-search_flow.result c.from_residual-in_err-search_flow.ensures.1 in
    c.in_err-search_flow.ensures.fails (cc (p.1, p.2, e)) c.args.start.now has

pub returns-in_err-search_flow-clause-limit : goal.returns-in_err-search_flow-clause-limit
returns-in_err-search_flow-clause-limit g c = λ e.
    let d = c.args.d.now in
    let o = g.D.Domain.order d in
    let n_is : c.len-n.result ≡ length c.args.g.now.blocks.items = omega (arith, c.len-n.ensures, c.args.g.now.blocks.ok.0) in
    let s_is : c.in_ok-first.first ≡ c.args.start.now = c.in_ok-first.ensures.ok.0 ∙ c.in_ok-copy.ensures in
    let small : o.is_small c.args.start.now = subst o.is_small c.in_ok-copy.ensures c.in_ok-first.ensures.ok.1 in
    let has : IsSearch o c.args.g.now c.args.start.now c.deref_mut-3.result.now c.deref_mut.result.now c.deref_mut-2.result.now =
    search_begins o c.args.g.now c.args.start.now c.in_ok-first.first c.len-n.result c.deref_mut.result.now c.deref_mut-2.result.now c.deref_mut-3.result.now n_is s_is small
    (c.deref_mut.ensures.value ∙ c.in_ok-states.ensures) (c.deref_mut-2.ensures.value ∙ c.in_ok-waiting.ensures) (c.deref_mut-3.ensures.value ∙ c.in_ok-left.ensures) in
    let p = err_from_is_err_and c.from_residual-in_err-search_flow.result c.from_residual-in_err-search_flow.ensures.1 in
    c.in_err-search_flow.ensures.limit (cc (p.1, p.2, e)) c.args.start.now has

pub returns-clause-ends : goal.returns-clause-ends
returns-clause-ends g c =
    let d = c.args.d.now in
    let o = g.D.Domain.order d in
    let n_is : c.len-n.result ≡ length c.args.g.now.blocks.items = omega (arith, c.len-n.ensures, c.args.g.now.blocks.ok.0) in
    let s_is : c.in_ok-first.first ≡ c.args.start.now = c.in_ok-first.ensures.ok.0 ∙ c.in_ok-copy.ensures in
    let small : o.is_small c.args.start.now = subst o.is_small c.in_ok-copy.ensures c.in_ok-first.ensures.ok.1 in
    let has : IsSearch o c.args.g.now c.args.start.now c.deref_mut-3.result.now c.deref_mut.result.now c.deref_mut-2.result.now =
    search_begins o c.args.g.now c.args.start.now c.in_ok-first.first c.len-n.result c.deref_mut.result.now c.deref_mut-2.result.now c.deref_mut-3.result.now n_is s_is small
    (c.deref_mut.ensures.value ∙ c.in_ok-states.ensures) (c.deref_mut-2.ensures.value ∙ c.in_ok-waiting.ensures) (c.deref_mut-3.ensures.value ∙ c.in_ok-left.ensures) in
    let new = c.search_flow.new.states in
    let kept : length new ≡ c.in_ok-states.states.len = omega (arith, c.search_flow.auto.states, c.deref_mut.ensures.len, c.in_ok-states.states.ok.0) in
    subst (λ xs. EndsWith o c.args.g.now c.args.start.now xs) (sym (take_at new (drop (length new) c.in_ok-states.states.items) c.in_ok-states.states.len kept))
    (search_ends o c.args.g.now c.args.start.now c.search_flow.new.left new c.search_flow.new.waiting (c.in_ok-search_flow.ensures.search c.args.start.now has) c.in_ok-search_flow.ensures.rests)
