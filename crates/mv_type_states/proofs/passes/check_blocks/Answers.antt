use Rattle.mv_type_states.proofs.Common.{[], ℕ, ◌++◌, ◌+◌, ◌<◌, ◌∙◌, ◌≡◌, ◌≤◌, List, Some, ap, arith, get_or, length, reverse, slice_get, subst, sym, length-reverse, slice_get-get_or}
use Rattle.mv_type_states.proofs.Common.{err_from_is_err_and, slice_range, basic_block_of, Block, Cfg, types_each, types_through}
use Rattle.std.proofs.lemmas.List.{nil_from_length}
use Rattle.mv_cfg.specs.Graph.{IsGraph}
use Rattle.mv_type_rules.specs.Sound.{types_in}
use Rattle.mv_type_states.proofs.BlockLemmas.{walked, listed_block, block_room, block_refused, all_typed, all_listed}
use Rattle.mv_type_states.proofs.passes.check_blocks.Goals as goal

-- a block that the loop comes to lies in the code
inside : (g : Cfg) (size k : ℕ) (b : Block) (listed : List Block) → IsGraph g size → listed ≡ g.blocks.items → k < length listed → b ≡ get_or listed k b → (b.first ≤ b.last) × (b.last < size)
inside g size k b listed graph same below is =
    let at : slice_get g.blocks.items k ≡ Some b = ap (λ (bs : List Block). slice_get bs k) (sym same) ∙ slice_get-get_or listed k b below ∙ ap Some (sym is) in
    (graph.starts k b at, graph.ends k b at)

pub loop-block-preserved : goal.loop-block-preserved
loop-block-preserved c =
    let m = c.args.scope.now.module.now in
    let d = c.args.scope.now.function.now in
    let b = c.block-item.result in
    let k = c.loop-block.block-index in
    let bs = c.args.g.now.blocks.items in
    let same = c.deref-block-items.ensures.value in
    let below = subst (λ (bs : List Block). k < length bs) same c.loop-block-test.true in
    let is_b = subst (λ (bs : List Block). b ≡ get_or bs k b) same c.block-item.is in
    let empty = c.loop-block.invariant.empty in
    let there : types_through m d (slice_range d.code b.first (b.last + 1)) [] ≡ Some (reverse c.carry.new.stack.items) =
    ap (λ stack. types_through m d (slice_range d.code b.first (b.last + 1)) (reverse stack)) (sym empty)
    ∙ ap (λ code. types_through m d (slice_range code b.first (b.last + 1)) (reverse c.loop-block.stack.items)) (sym c.requires.code) ∙ c.in_ok-carry.ensures.types in
    let one : c.carry.new.all ≡ c.loop-block.all ++ types_in m d (basic_block_of c.args.g.now b) =
    c.in_ok-carry.ensures.listed
    ∙ ap (λ code. c.loop-block.all ++ types_each m d (slice_range code b.first (b.last + 1)) (reverse c.loop-block.stack.items)) c.requires.code
    ∙ ap (λ stack. c.loop-block.all ++ types_each m d (slice_range d.code b.first (b.last + 1)) (reverse stack)) empty in
    let next = walked m d c.args.g.now bs k b (reverse c.carry.new.stack.items) _ below is_b c.loop-block.invariant.decide c.loop-block.invariant.level there in
    record {
      decide = next.0;
      level = next.1.0;
      empty = nil_from_length c.carry.new.stack.items (sym (length-reverse c.carry.new.stack.items) ∙ next.1.1);
      listed = listed_block m d c.args.g.now bs k b c.loop-block.all c.carry.new.all _ below is_b c.loop-block.invariant.listed one;
    }

pub overflow_add-block : goal.overflow_add-block
overflow_add-block c =
    let lies = inside c.args.g.now _ c.loop-block.block-index c.block-item.result _ c.requires.graph.graph c.deref-block-items.ensures.value c.loop-block-test.true c.block-item.is in
    omega (arith, lies.0, lies.1, ap length c.requires.code)

pub offset_bounds-code-block : goal.offset_bounds-code-block
offset_bounds-code-block c =
    let lies = inside c.args.g.now _ c.loop-block.block-index c.block-item.result _ c.requires.graph.graph c.deref-block-items.ensures.value c.loop-block-test.true c.block-item.is in
    omega (arith, lies.0, lies.1, ap length c.requires.code)

pub slice_bounds-carry-count : goal.slice_bounds-carry-count
slice_bounds-carry-count c =
    let lies = inside c.args.g.now _ c.loop-block.block-index c.block-item.result _ c.requires.graph.graph c.deref-block-items.ensures.value c.loop-block-test.true c.block-item.is in
    omega (arith, lies.0, lies.1, ap length c.requires.code)

pub slice_bounds-carry-start : goal.slice_bounds-carry-start
slice_bounds-carry-start c =
    let lies = inside c.args.g.now _ c.loop-block.block-index c.block-item.result _ c.requires.graph.graph c.deref-block-items.ensures.value c.loop-block-test.true c.block-item.is in
    omega (arith, lies.0, lies.1, ap length c.requires.code)

pub slice_bounds-carry-end : goal.slice_bounds-carry-end
slice_bounds-carry-end c =
    let lies = inside c.args.g.now _ c.loop-block.block-index c.block-item.result _ c.requires.graph.graph c.deref-block-items.ensures.value c.loop-block-test.true c.block-item.is in
    omega (arith, lies.0, lies.1, ap length c.requires.code)

pub carry-requires-clause-level : goal.carry-requires-clause-level
carry-requires-clause-level c =
    let m = c.args.scope.now.module.now in
    let d = c.args.scope.now.function.now in
    let b = c.block-item.result in
    let k = c.loop-block.block-index in
    let bs = c.args.g.now.blocks.items in
    let same = c.deref-block-items.ensures.value in
    let below = subst (λ (bs : List Block). k < length bs) same c.loop-block-test.true in
    let is_b = subst (λ (bs : List Block). b ≡ get_or bs k b) same c.block-item.is in
    block_room m d c.args.g.now bs k b c.args.code.now c.loop-block.stack.items below is_b c.requires.code c.loop-block.invariant.empty c.loop-block.invariant.level

pub returns-in_err-carry-clause-refused : goal.returns-in_err-carry-clause-refused
returns-in_err-carry-clause-refused c =
    let m = c.args.scope.now.module.now in
    let d = c.args.scope.now.function.now in
    let b = c.block-item.result in
    let k = c.loop-block.block-index in
    let bs = c.args.g.now.blocks.items in
    let same = c.deref-block-items.ensures.value in
    let below = subst (λ (bs : List Block). k < length bs) same c.loop-block-test.true in
    let is_b = subst (λ (bs : List Block). b ≡ get_or bs k b) same c.block-item.is in
    let p = err_from_is_err_and c.from_residual-in_err-carry.result c.from_residual-in_err-carry.ensures.1 in
    rw (p.1, p.2)
    (block_refused m d c.args.g.now bs k b c.args.code.now c.loop-block.stack.items _ _ below is_b c.requires.code c.loop-block.invariant.empty c.loop-block.invariant.decide c.in_err-carry.ensures.types)

pub returns-clause-ok : goal.returns-clause-ok
returns-clause-ok c =
    let end = subst (λ (bs : List Block). length bs ≤ c.loop-block.block-index) c.deref-block-items.ensures.value c.loop-block-test.false in
    all_typed c.args.scope.now.module.now c.args.scope.now.function.now c.args.g.now c.args.g.now.blocks.items c.loop-block.block-index _ end c.loop-block.invariant.decide

pub returns-clause-listed : goal.returns-clause-listed
returns-clause-listed c =
    let end = subst (λ (bs : List Block). length bs ≤ c.loop-block.block-index) c.deref-block-items.ensures.value c.loop-block-test.false in
    all_listed c.args.scope.now.module.now c.args.scope.now.function.now c.args.g.now c.args.g.now.blocks.items c.loop-block.block-index _ _ end c.loop-block.invariant.listed
