use Rattle.mv_linker.proofs.Common.{◌-◌, ◌<◌, ◌∙◌, ◌≡◌, Some, ap, arith, length, modules_in, slice_get, slice_get_within, sym, take}
use Rattle.mv_linker.specs.Finished.{IsNext}
use Rattle.mv_linker.proofs.Cycles.Searching.{IsOpen, less-left, not-done, search-goes-back, search-goes-on, search-loops}
use Rattle.mv_linker.proofs.rules.acyclic.Dependencies.leads_back.Goals as goal
use Rattle.mv_linker.proofs.rules.acyclic.Dependencies.leads_back.Goals.{In-Some, In-Some-next_after}

-- the last place of the chain
last-at : (c : In-Some) → slice_get c.search.chain.items (length c.search.chain.items - 1) ≡ Some c.in-Some.last.now
last-at c = ap (λ l. slice_get l (length l - 1)) (sym c.deref.ensures.value) ∙ sym c.in-Some.ensures.value

last-open : (c : In-Some) → IsOpen (modules_in c.args.self.now.scope.now) c.args.base c.search.met c.search.done c.in-Some.last.now
last-open c = c.search.invariant.open_at (length c.search.chain.items - 1) c.in-Some.last.now (last-at c)

-- a place that it leads to is there
next-low : (c : In-Some-next_after) → c.in-Some-next_after.next < length (modules_in c.args.self.now.scope.now)
next-low c =
    let next : IsNext (modules_in c.args.self.now.scope.now) c.args.base c.search.done c.in-Some.last.now c.in-Some-next_after.next = c.in-Some-next_after.ensures in
    slice_get_within (modules_in c.args.self.now.scope.now) c.in-Some-next_after.next next.leads.to next.leads.to_at

pub next_after-requires-clause-place : goal.next_after-requires-clause-place
next_after-requires-clause-place c = (last-open (goal.at.next_after-requires-clause-place c).In-Some).low

pub insert-requires-in_default-next_after : goal.insert-requires-in_default-next_after
insert-requires-in_default-next_after c =
    let low = (last-open (goal.at.insert-requires-in_default-next_after c).In-Some).low in
    omega (arith, low, c.args.self.now.scope.now.few)

pub search-smaller-in_default-next_after : goal.search-smaller-in_default-next_after
search-smaller-in_default-next_after c =
    let end = last-open (goal.at.search-smaller-in_default-next_after c).In-Some in
    let less = less-left c.search.done c.insert-in_default-next_after.new.self c.in-Some.last.now (length (modules_in c.args.self.now.scope.now)) end.low (not-done _ _ _ end.unfinished) c.in_ok-insert-2.ensures.members in
    omega (arith, less)

pub search-preserved-in_default-next_after : goal.search-preserved-in_default-next_after
search-preserved-in_default-next_after c =
    let i = (goal.at.search-preserved-in_default-next_after c).In-Some in
    search-goes-back _ _ _ _ c.search.chain.items c.search.met c.search.done c.search.invariant c.in-Some.last.now (last-at i) c.pop.new.self.items c.insert-in_default-next_after.new.self
    c.in_default-next_after.ensures (c.pop.ensures.rest ∙ ap (λ n. take (n - 1) c.search.chain.items) c.search.chain.ok.0) c.in_ok-insert-2.ensures.members

pub returns-then-contains : goal.returns-then-contains
returns-then-contains c =
    let i = (goal.at.returns-then-contains c).In-Some in
    search-loops _ _ _ _ c.search.chain.items c.search.met c.search.done c.search.invariant c.in-Some.last.now (last-at i) c.in-Some-next_after.next c.in-Some-next_after.ensures
    (sym c.contains.ensures ∙ c.if-contains.true)

pub insert-requires-in-Some : goal.insert-requires-in-Some
insert-requires-in-Some c =
    let low = next-low (goal.at.insert-requires-in-Some c).In-Some-next_after in
    omega (arith, low, c.args.self.now.scope.now.few)

pub search-smaller : goal.search-smaller
search-smaller c =
    let low = next-low (goal.at.search-smaller c).In-Some-next_after in
    let less = less-left c.search.met c.insert-in-Some.new.self c.in-Some-next_after.next (length (modules_in c.args.self.now.scope.now)) low (sym c.contains.ensures ∙ c.if-contains.false) c.in_ok-insert-3.ensures.members in
    omega (arith, less)

pub search-preserved : goal.search-preserved
search-preserved c =
    let i = (goal.at.search-preserved c).In-Some in
    search-goes-on _ _ _ _ c.search.chain.items c.search.met c.search.done c.search.invariant c.in-Some.last.now (last-at i) c.in-Some-next_after.next c.push-in-Some.new.self.items c.insert-in-Some.new.self
    c.in-Some-next_after.ensures (sym c.contains.ensures ∙ c.if-contains.false) c.in_ok-push-2.ensures.items c.in_ok-insert-3.ensures.members
