-- How high a function's stack gets, and the step at a place.
use Rattle.std.specs.Prelude.{◌==◌, IfOk, IsSome}
use Rattle.std.proofs.Common.{◌≡◌, ◌≤◌, reverse, arith, ℕ, Bool, true, false, cond, List, [], ◌∷◌, ◌++◌, length, slice_range, ◌+◌, ◌-◌, nat_le, Option, Some, length-append}
use Rattle.std.proofs.Common.{None, Result, IsErrOf, slice_get, option_map, refl, sym, ap, ◌∙◌, subst}
use Rattle.std.specs.List.{list_all, flat_map}
use Rattle.std.specs.Option.{option_map_or}
use Rattle.std.proofs.lemmas.Bool.{and_parts, and_from, leb-true}
use Rattle.std.proofs.lemmas.List.{length-reverse}
use Rattle.mv_move_types.specs.declared.token.Token.{Token}
use Rattle.std.proofs.lemmas.List.Folds.{list_all-append}
use Rattle.mv_move_types.specs.declared.instruction.Instruction.{Instruction}
use Rattle.mv_move_types.specs.Options.{◌>>=◌}
use Rattle.mv_move_types.specs.Module.{Module, FunctionDefinition}
use Rattle.mv_cfg.specs.Blocks.{BasicBlock, blocks}
use Rattle.mv_cfg.proofs.Tiling.{Tiles, blocks-tile}
use Rattle.mv_type_rules.specs.TypeRules.{Types, types_after}
use Rattle.mv_type_rules.specs.TypesHold.{Point, types_through, block_is_typed, function_is_typed, TypesHold, point_at}
use Rattle.mv_type_rules.specs.Sound.{types_each, types_in, types_before}
use Rattle.mv_borrow_graph.specs.Laws.BlockTypes.{length-types_each, length-range, tiles_within, typed_some}
use Rattle.mv_borrow_graph.specs.Domain.{is_low, ordered, edges_step}
use Rattle.mv_certificate_rules.specs.BorrowRules.{edges_after}
use Rattle.mv_edges.specs.Edges.{Edge}
use Rattle.mv_edges.specs.Ascending.{are_ascending}
use Rattle.mv_edges.proofs.Sorting.{sorted-ascending}
use Rattle.mv_lattice.specs.declared.StepError.{StepError}
use Rattle.mv_lattice.specs.declared.StepError.TheVariants.{Need, Memory}
use Rattle.mv_bound_rules.proofs.Entries.{all_at}

module _ (m : Module) (d : FunctionDefinition) where
  -- the types after an instruction, and before each of those that follow
  after_low : (is : List Instruction) (end : Types) → ((next : Types) → is_low next ≡ true → types_through m d is next ≡ Some end → list_all is_low (types_each m d is next) ≡ true)
      → (o : Option Types) → (o >>= λ next. cond (nat_le (length next) 128) (types_through m d is next) None) ≡ Some end → list_all is_low (option_map_or (types_each m d is) o []) ≡ true
  after_low is end low None e = refl
  after_low is end low (Some next) e = by_height (nat_le (length next) 128) refl e
    where
      by_height : (b : Bool) → nat_le (length next) 128 ≡ b → cond b (types_through m d is next) None ≡ Some end → list_all is_low (types_each m d is next) ≡ true
      by_height true h e = low next h e
      by_height false h e = cc

  -- the types before each of some instructions, where each finds what it needs
  each_low : (is : List Instruction) (stack end : Types) → is_low stack ≡ true → types_through m d is stack ≡ Some end → list_all is_low (types_each m d is stack) ≡ true
  each_low [] stack end low e = refl
  each_low (i ∷ is) stack end low e =
      and_from (is_low stack) (list_all is_low (option_map_or (types_each m d is) (types_after m d i stack) [])) low
      (after_low is end (λ next h t. each_low is next end h t) (types_after m d i stack) e)

  block_low : (b : BasicBlock) → block_is_typed m d b ≡ true → list_all is_low (types_each m d (slice_range d.code b.first (b.last + 1)) []) ≡ true
  block_low b typed = by_end (types_through m d (slice_range d.code b.first (b.last + 1)) []) refl typed
    where
      by_end : (o : Option Types) → types_through m d (slice_range d.code b.first (b.last + 1)) [] ≡ o
          → option_map_or (λ stack. length stack == 0) o false ≡ true
          → list_all is_low (types_each m d (slice_range d.code b.first (b.last + 1)) []) ≡ true
      by_end None e h = cc
      by_end (Some end) e h = each_low (slice_range d.code b.first (b.last + 1)) [] end refl e

  blocks_low : (bs : List BasicBlock) → list_all (block_is_typed m d) bs ≡ true → list_all is_low (flat_map (λ b. types_each m d (slice_range d.code b.first (b.last + 1)) []) bs) ≡ true
  blocks_low [] h = refl
  blocks_low (b ∷ bs) h =
      let parts = and_parts (block_is_typed m d b) (list_all (block_is_typed m d) bs) h in
      let first = types_each m d (slice_range d.code b.first (b.last + 1)) [] in
      let others = flat_map (λ b. types_each m d (slice_range d.code b.first (b.last + 1)) []) bs in
      list_all-append is_low first others ∙ and_from (list_all is_low first) (list_all is_low others) (block_low b parts.0) (blocks_low bs parts.1)

-- no stack in a typed function is higher than 128
pub types_low : (m : Module) (f : ℕ) (d : FunctionDefinition) → TypesHold m → slice_get m.functions f ≡ Some d → list_all is_low (types_before m d) ≡ true
types_low m f d typed at = blocks_low m d (blocks d.code) (all_at (function_is_typed m) m.functions f d typed at)

-- a stack among those before the instructions
pub low_stack : (all before : List Types) (at : ℕ) (stack : List Token) → all ≡ before → list_all is_low before ≡ true → slice_get all at ≡ Some (reverse stack) → length stack ≤ 128
low_stack all before at stack same low there =
    let high = leb-true (length (reverse stack)) 128 (all_at is_low all at (reverse stack) (subst (λ xs. list_all is_low xs ≡ true) (sym same) low) there) in
    let long : length (reverse stack) ≡ length stack = length-reverse stack in
    omega (arith, high, long)

module _ (m : Module) (d : FunctionDefinition) where
  blocks_long : (bs : List BasicBlock) (at : ℕ) → Tiles at bs (length d.code) → list_all (block_is_typed m d) bs ≡ true → at + length (flat_map (types_in m d) bs) ≡ length d.code
  blocks_long [] at t typed = let none : at + 0 ≡ at = omega arith in none ∙ t
  blocks_long (b ∷ bs) at t typed =
      let parts = and_parts (block_is_typed m d b) (list_all (block_is_typed m d) bs) typed in
      let begins : b.first ≡ at = t.0 in
      let order : b.first ≤ b.last = t.1.0 in
      let within : b.last + 1 ≤ length d.code = tiles_within bs (b.last + 1) (length d.code) t.1.1 in
      let one : length (types_in m d b) ≡ b.last + 1 - b.first =
      length-types_each m d (slice_range d.code b.first (b.last + 1)) [] (typed_some m d b parts.0) ∙ length-range d.code b.first (b.last + 1) within in
      let both : length (types_in m d b ++ flat_map (types_in m d) bs) ≡ length (types_in m d b) + length (flat_map (types_in m d) bs) = length-append (types_in m d b) (flat_map (types_in m d) bs) in
      let others : b.last + 1 + length (flat_map (types_in m d) bs) ≡ length d.code = blocks_long bs (b.last + 1) t.1.1 parts.1 in
      omega (arith, begins, order, one, both, others)

-- in a typed function the types before each instruction are known
pub types_long : (m : Module) (f : ℕ) (d : FunctionDefinition) → TypesHold m → slice_get m.functions f ≡ Some d → length (types_before m d) ≡ length d.code
types_long m f d typed at =
    let long : 0 + length (types_before m d) ≡ length d.code = blocks_long m d (blocks d.code) 0 (blocks-tile d.code) (all_at (function_is_typed m) m.functions f d typed at) in
    omega (arith, long)

module _ (m : Module) (d : FunctionDefinition) (at : ℕ) (s : List Edge) (i : Instruction) (code : slice_get d.code at ≡ Some i) where
  known : (p : Point) (o : Option Types) → Some p ≡ option_map (point_at m d) o → (o >>= λ types. ordered (edges_after (point_at m d types) i s)) ≡ ordered (edges_after p i s)
  known p None e = cc
  known p (Some types) e = let same : p ≡ point_at m d types = cc in ap (λ (q : Point). ordered (edges_after q i s)) (sym same)

  -- the step, by the types before the instruction
  step_is : (p : Point) → Some p ≡ option_map (point_at m d) (slice_get (types_before m d) at) → edges_step m d at s ≡ ordered (edges_after p i s)
  step_is p e = rw code (known p (slice_get (types_before m d) at) e)

  module _ (p : Point) (r : Result (List Edge) StepError) where
    pub step_ok : Some p ≡ option_map (point_at m d) (slice_get (types_before m d) at) → IfOk r (λ t. ordered (edges_after p i s) ≡ Some t) → IfOk r (λ t. edges_step m d at s ≡ Some t)
    step_ok e = subst (λ (o : Option (List Edge)). IfOk r (λ t. o ≡ Some t)) (sym (step_is p e))

    pub step_need : Some p ≡ option_map (point_at m d) (slice_get (types_before m d) at) → (IsErrOf r Need → ordered (edges_after p i s) ≡ None) → IsErrOf r Need → edges_step m d at s ≡ None
    step_need e needs h = step_is p e ∙ needs h

    pub step_meets : Some p ≡ option_map (point_at m d) (slice_get (types_before m d) at) → (IsErrOf r Memory → IsSome (ordered (edges_after p i s)))
        → IsErrOf r Memory → IsSome (edges_step m d at s)
    step_meets e meets h = subst (λ (o : Option (List Edge)). IsSome o) (sym (step_is p e)) (meets h)

  -- an instruction that leaves all edges as they are
  pub step_left : (p : Point) → Some p ≡ option_map (point_at m d) (slice_get (types_before m d) at) → ((q : Point) (es : List Edge) → edges_after q i es ≡ Some es) → are_ascending s ≡ true
      → edges_step m d at s ≡ Some s
  step_left p e leaves ascend = step_is p e ∙ ap ordered (leaves p s) ∙ ap Some (sorted-ascending s ascend)

-- an instruction that leaves no edges where there are none
pub step_of_none : (m : Module) (d : FunctionDefinition) (at : ℕ) (i : Instruction) (p : Point) → slice_get d.code at ≡ Some i
    → Some p ≡ option_map (point_at m d) (slice_get (types_before m d) at) → edges_after p i [] ≡ Some [] → edges_step m d at [] ≡ Some []
step_of_none m d at i p code e leaves = step_is m d at [] i code p e ∙ ap ordered leaves
