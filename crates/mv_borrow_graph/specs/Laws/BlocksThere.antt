-- A block that goes on leads from edges between nodes that are there to such edges, and so past the operands.
use Rattle.std.proofs.Common.{◌≡◌, ◌==◌, ℕ, ◌+◌, ◌-◌, ◌<◌, ◌≤◌, suc, Bool, true, false, cond, List, [], ◌∷◌, length, map, Option, Some, None}
use Rattle.std.proofs.Common.{option_and_then, slice_get, nat_le, Contains, refl, ap, sym, ◌∙◌, subst, arith, get_or, ⊎_elim}
use Rattle.std.specs.List.{slice_range}
use Rattle.std.specs.Option.{option_map_or}
use Rattle.std.proofs.lemmas.Bool.{false≢true, true≢false, cases_lt, eqb-true}
use Rattle.std.proofs.lemmas.List.{length-map}
use Rattle.std.proofs.lemmas.Option.{none-some, same_Some, slice_get_within}
use Rattle.mv_move_types.specs.declared.instruction.Instruction.{Instruction}
use Rattle.mv_move_types.specs.declared.instruction.Instruction.TheVariants.{Ret}
use Rattle.mv_move_types.specs.Flow.{ends_block, successors}
use Rattle.mv_move_types.specs.Module.{Module, FunctionDefinition}
use Rattle.mv_cfg.specs.declared.Block.{Block}
use Rattle.mv_cfg.specs.declared.Cfg.{Cfg}
use Rattle.mv_cfg.specs.Blocks.{BasicBlock, blocks, block_between, leads_to}
use Rattle.mv_cfg.specs.Steps.{starts}
use Rattle.mv_cfg.specs.Graph.{IsBlock}
use Rattle.mv_cfg.specs.FlowGraph.{IsFlowGraph, basic_block_of, first_of}
use Rattle.mv_cfg.proofs.Beginnings.{blocks_at-get, length-blocks_at}
use Rattle.mv_cfg.proofs.Tiling.{inside-block}
use Rattle.mv_type_rules.specs.TypeRules.{Types, types_after}
use Rattle.mv_type_rules.specs.TypesHold.{types_through, block_is_typed, point_at}
use Rattle.mv_type_rules.specs.Sound.{types_each, types_before}
use Rattle.mv_lattice.specs.Flow.{carried, through}
use Rattle.mv_edges.specs.Edges.{Edge}
use Rattle.mv_edges.specs.Sorted.{sorted}
use Rattle.mv_type_rules.proofs.Steps.{bind_some}
use Rattle.mv_certificate_rules.specs.BorrowRules.{edges_after}
use Rattle.mv_borrow_graph.specs.Domain.{ordered, edges_step}
use Rattle.mv_certificate_rules.specs.Nodes.{edge_is_there, are_there, may_begin_with, IsGraphOf}
use Rattle.mv_borrow_graph.specs.Laws.There.{each_sorted}
use Rattle.mv_borrow_graph.specs.Laws.KeptThere.{HasPlainFields, after_there}
use Rattle.mv_borrow_graph.specs.Laws.BlockTypes.{Stands, Stands-head, Stands-tail, Stands-range, length-range, Stands-types, block_at}
use Rattle.mv_bound_rules.proofs.Entries.{all_at, none_within}

-- none of the instructions is a return
abbrev NoReturn : List Instruction → Type 0
NoReturn is = (j : ℕ) (i : Instruction) → slice_get is j ≡ Some i → i ≡ Ret → ⊥

high_enough : {A : Type 0} (b : Bool) (o : Option A) (x : A) → cond b o None ≡ Some x → o ≡ Some x
high_enough true o x e = e
high_enough false o x e = absurd (none-some x e)

-- what a function makes of a value that is there
next_found : {A B : Type 0} (f : A → Option B) (o : Option A) (y : B) → option_and_then f o ≡ Some y → (x : A) × ((o ≡ Some x) × (f x ≡ Some y))
next_found f None y e = absurd (none-some y e)
next_found f (Some x) y e = (x, (refl, e))

module _ (m : Module) (d : FunctionDefinition) (ok : HasPlainFields m) where
  -- one step
  step_there : (at : ℕ) (i : Instruction) (s t : Types) (es fs : List Edge)
      → slice_get d.code at ≡ Some i → slice_get (types_before m d) at ≡ Some s → (i ≡ Ret → ⊥) → types_after m d i s ≡ Some t
      → edges_step m d at es ≡ Some fs → are_there (point_at m d s) es ≡ true → are_there (point_at m d t) fs ≡ true
  step_there at i s t es fs code known go typed e there =
      let here : ordered (edges_after (point_at m d s) i es) ≡ Some fs = rw (code, known) at e in
      let h = bind_some (edges_after (point_at m d s) i es) _ fs here in
      subst (λ xs. are_there (point_at m d t) xs ≡ true) (same_Some (sorted h.0) fs h.1.1)
      (each_sorted (edge_is_there (point_at m d t)) h.0 (after_there m d ok s t es h.0 there i go typed h.1.0))

  -- some instructions
  walk : (is : List Instruction) (at : ℕ) (s end : Types) (es fs : List Edge)
      → Stands is d.code at → Stands (types_each m d is s) (types_before m d) at → NoReturn is
      → types_through m d is s ≡ Some end
      → carried (edges_step m d) at (length is) es ≡ Some fs → are_there (point_at m d s) es ≡ true → are_there (point_at m d end) fs ≡ true
  walk [] at s end es fs code known go typed e there =
      subst (λ x. are_there (point_at m d x) fs ≡ true) (same_Some s end typed) (subst (λ xs. are_there (point_at m d s) xs ≡ true) (same_Some es fs e) there)
  walk (i ∷ is) at s end es fs code known go typed e there =
      let next = bind_some (types_after m d i s) _ end typed in
      let rest = high_enough (nat_le (length next.0) 128) (types_through m d is next.0) end next.1.1 in
      let step = next_found (carried (edges_step m d) (suc at) (length is)) (edges_step m d at es) fs e in
      let others = Stands-tail s (option_map_or (types_each m d is) (types_after m d i s) []) (types_before m d) at known in
      walk is (suc at) next.0 end step.0 fs (Stands-tail i is d.code at code)
      (subst (λ (o : Option Types). Stands (option_map_or (types_each m d is) o []) (types_before m d) (suc at)) next.1.0 others)
      (λ j x f. go (suc j) x f) rest step.1.1
      (step_there at i s next.0 es step.0 (Stands-head i is d.code at code)
      (Stands-head s (option_map_or (types_each m d is) (types_after m d i s) []) (types_before m d) at known) (go 0 i refl) next.1.0 step.1.0 there)

-- where a block leads
leads_on : (code : List Instruction) (k : ℕ) (b : BasicBlock) → slice_get (blocks code) k ≡ Some b → b.next ≡ leads_to code b.last
leads_on code k b at =
    let within : k < length (blocks code) = slice_get_within (blocks code) k b at in
    let h : k < length (starts code) = omega (arith, length-blocks_at code (starts code)) in
    let is : block_between code (get_or (starts code) k 0) (get_or (starts code) (suc k) (length code)) ≡ b =
    same_Some _ b (sym (blocks_at-get code (starts code) k h) ∙ at) in
    subst (λ (x : BasicBlock). x.next ≡ leads_to code x.last) is refl

-- a return ends a block, and leads nowhere
return_ends : (i : Instruction) → i ≡ Ret → ends_block i ≡ true
return_ends i e = ap ends_block e

-- a block that goes on has no return
no_return : (code : List Instruction) (g : Cfg) (k n : ℕ) (b : Block)
    → IsFlowGraph code g → IsBlock g k b → Contains b.successors.items n → NoReturn (slice_range code b.first (b.last + 1))
no_return code g k n b fg here next j i at is =
    let st : BasicBlock = basic_block_of g b in
    let place : slice_get (blocks code) k ≡ Some st = block_at code g k b fg here in
    let read : slice_get code (b.first + j) ≡ Some i = (Stands-range code b.first (b.last + 1)).each j i at in
    let ends : b.last < length code = fg.graph.ends k b here in
    let size = length-range code b.first (b.last + 1) (omega arith) in
    let low = slice_get_within (slice_range code b.first (b.last + 1)) j i at in
    ⊎_elim
    (λ (inside : b.first + j < b.last). true≢false (sym (return_ends i is) ∙ (inside-block code k st place (b.first + j) i (omega arith) inside read).0))
    (λ (last : b.last ≤ b.first + j).
    let order : b.first ≤ b.last = fg.graph.starts k b here in
    let same : b.first + j ≡ b.last = omega (arith, low, size, last, order) in
    let there : slice_get code b.last ≡ Some Ret = subst (λ x. slice_get code x ≡ Some i) same read ∙ ap Some is in
    let none : map (first_of g) b.successors.items ≡ [] = leads_on code k st place ∙ ap (λ o. option_map_or (successors b.last) o []) there in
    none_within b.successors.items n (sym (length-map b.successors.items (first_of g)) ∙ ap length none) next)
    (cases_lt (b.first + j) b.last)

pub empty_end : (o : Option Types) → option_map_or (λ stack. length stack == 0) o false ≡ true → o ≡ Some []
empty_end None h = absurd (false≢true h)
empty_end (Some []) h = refl
empty_end (Some (t ∷ ts)) h = absurd (let no = eqb-true (length (t ∷ ts)) 0 h in omega (arith, no))

-- what a block that goes on makes of edges with which a block may begin
pub begins_again : (m : Module) (d : FunctionDefinition) (g : Cfg) (k n : ℕ) (b : Block) (es fs : List Edge)
    → IsGraphOf m d g → IsBlock g k b → Contains b.successors.items n
    → may_begin_with m d es ≡ true
    → through (edges_step m d) b es ≡ Some fs → may_begin_with m d fs ≡ true
begins_again m d g k n b es fs graph here next there e =
    let st : BasicBlock = basic_block_of g b in
    let fg = graph.flow in
    let place : slice_get (blocks d.code) k ≡ Some st = block_at d.code g k b fg here in
    let ends : b.last < length d.code = fg.graph.ends k b here in
    let is = slice_range d.code b.first (b.last + 1) in
    let size : length is ≡ b.last + 1 - b.first = length-range d.code b.first (b.last + 1) (omega arith) in
    let typed : types_through m d is [] ≡ Some [] = empty_end (types_through m d is []) (all_at (block_is_typed m d) (blocks d.code) k st graph.typed place) in
    walk m d (record { plain = graph.fields; few = graph.few }) is b.first [] [] es fs (Stands-range d.code b.first (b.last + 1))
    (Stands-types m d k st graph.typed place) (no_return d.code g k n b fg here next) typed
    (subst (λ x. carried (edges_step m d) b.first x es ≡ Some fs) (sym size) e) there
