use Rattle.mv_bounds.proofs.Common.{[], ℕ, ◌<◌, ◌∙◌, ◌≡◌, ◌≤◌, Bool, Global, List, Some, Vec, ap, arith, drop, get_or, length, map, refl, set, subst, sym, true, length-map, take_at}
use Rattle.mv_bounds.proofs.Common.{slice_get-map, slice_get_read, list_all, slice_get, option_map, Released, are_nodes, is_zero, times}
use Rattle.std.proofs.lemmas.List.{nil_from_length}
use Rattle.mv_bounds.proofs.RemovalLemmas.{removal_begins, node_within, unmarked, edges_held, removal_more, removal_ends, fewer_remain, Removal}
use Rattle.mv_bounds.proofs.cycles.can_be_emptied.Goals as goal

-- the successors of a node of the graph
successors_at : (graph : List (Vec ℕ Global)) (node : ℕ) (v : Vec ℕ Global) (targets : List ℕ)
    → node < length (map (λ (s : Vec ℕ Global). s.items) graph) → v ≡ get_or graph node v → targets ≡ v.items
    → slice_get (map (λ (s : Vec ℕ Global). s.items) graph) node ≡ Some targets
successors_at graph node v targets low at is =
    slice_get-map (λ (s : Vec ℕ Global). s.items) graph node
    ∙ ap (option_map (λ (s : Vec ℕ Global). s.items)) (slice_get_read graph (length graph) node v refl (omega (arith, low, length-map graph (λ (s : Vec ℕ Global). s.items))) at)
    ∙ ap (λ xs. Some xs) (sym is)

pub loop-node-init : goal.loop-node-init
loop-node-init c =
    let graph = map (λ (s : Vec ℕ Global). s.items) c.args.graph.now in
    let waiting = c.in_ok-waiting.waiting.items in
    let ready = c.in_ok-ready.ready.items in
    let nodes : length graph ≡ length c.args.graph.now = length-map c.args.graph.now (λ (s : Vec ℕ Global). s.items) in
    let len : length waiting ≡ length graph = omega (arith, c.in_ok-waiting.ensures.len, nodes) in
    let value = c.deref.ensures.value in
    let begins = removal_begins graph waiting ready (length c.args.graph.now) len (sym nodes) (λ j l. c.in_ok-waiting.ensures.counts j (omega (arith, l, nodes)))
    (subst (λ (xs : List ℕ). (j : ℕ) → j < length xs → times j ready ≡ is_zero (get_or xs j 0)) value c.in_ok-ready.ensures.ready)
    (subst (λ (xs : List ℕ). are_nodes (length xs) ready ≡ true) value c.in_ok-ready.ensures.below) in
    subst (λ (marks : List Bool). Removal graph waiting marks ready) (sym (c.in_ok-removed.ensures.items_if_clones_equal (λ y h. h))) begins

pub release-requires : goal.release-requires
release-requires c = λ j l.
    let r = c.loop-node.invariant in
    let graph = map (λ (s : Vec ℕ Global). s.items) c.args.graph.now in
    let waiting = c.loop-node.waiting.items in
    let removed = c.loop-node.removed.items in
    let ready = c.loop-node.ready.items in
    let others = c.pop.new.self.items in
    let node = c.in-Some.node in
    let low = node_within graph waiting removed ready others node r c.in-Some.ensures.items in
    let targets = c.deref-in-Some.result.now in
    let at = successors_at c.args.graph.now node c.index-graph-node.result targets low c.index-graph-node.is c.deref-in-Some.ensures.value in
    let value = c.deref_mut.ensures.value in
    let held = edges_held graph waiting removed ready others node r c.in-Some.ensures.items targets at j (subst (λ (xs : List ℕ). j < length xs) value l) in
    subst (λ (xs : List ℕ). times j targets ≤ get_or xs j 0) (sym value) held

pub loop-node-smaller : goal.loop-node-smaller
loop-node-smaller c =
    let r = c.loop-node.invariant in
    let graph = map (λ (s : Vec ℕ Global). s.items) c.args.graph.now in
    let removed = c.loop-node.removed.items in
    let low = node_within graph c.loop-node.waiting.items removed c.loop-node.ready.items c.pop.new.self.items c.in-Some.node r c.in-Some.ensures.items in
    fewer_remain removed c.in-Some.node (omega (arith, low, r.marks_len)) (unmarked graph c.loop-node.waiting.items removed c.loop-node.ready.items c.pop.new.self.items c.in-Some.node r c.in-Some.ensures.items)

pub loop-node-preserved : goal.loop-node-preserved
loop-node-preserved c =
    let r = c.loop-node.invariant in
    let graph = map (λ (s : Vec ℕ Global). s.items) c.args.graph.now in
    let waiting = c.loop-node.waiting.items in
    let removed = c.loop-node.removed.items in
    let ready = c.loop-node.ready.items in
    let others = c.pop.new.self.items in
    let node = c.in-Some.node in
    let new = c.release.new.waiting in
    let low = node_within graph waiting removed ready others node r c.in-Some.ensures.items in
    let targets = c.deref-in-Some.result.now in
    let at = successors_at c.args.graph.now node c.index-graph-node.result targets low c.index-graph-node.is c.deref-in-Some.ensures.value in
    let value = c.deref_mut.ensures.value in
    let gone : Released (length waiting) waiting new others c.release.new.ready.items targets = subst (λ (xs : List ℕ). Released (length xs) xs new others c.release.new.ready.items targets) value c.in_ok-release.ensures in
    let more = removal_more graph waiting removed ready others node r c.in-Some.ensures.items new c.release.new.ready.items targets at gone in
    let long : length new ≡ c.loop-node.waiting.len = omega (arith, gone.len) in
    subst (λ (xs : List ℕ). Removal graph xs (set removed node true) c.release.new.ready.items) (sym (take_at new (drop (length new) waiting) c.loop-node.waiting.len long)) more

pub returns : goal.returns
returns c =
    let graph = map (λ (s : Vec ℕ Global). s.items) c.args.graph.now in
    let ends = c.in_default.ensures.cases in
    let none : c.loop-node.ready.items ≡ [] = nil_from_length c.loop-node.ready.items (omega (arith, ends.0)) in
    let r = subst (λ (xs : List ℕ). Removal graph c.loop-node.waiting.items c.loop-node.removed.items xs) none c.loop-node.invariant in
    let marks : c.all_marked.result ≡ list_all (λ (r : Bool). r) c.loop-node.removed.items = c.all_marked.ensures ∙ ap (list_all (λ (r : Bool). r)) c.deref-2.ensures.value in
    let both = removal_ends graph c.loop-node.waiting.items c.loop-node.removed.items r in
    ((λ h. both.0 (sym marks ∙ h)), (λ never. marks ∙ both.1 never))
