-- The types before the instructions of a block stand among those of the function.
use Rattle.std.proofs.Common.{◌≡◌, ◌==◌, ℕ, ◌+◌, ◌-◌, ◌≤◌, zero, suc, Bool, true, false, cond, List, [], ◌∷◌, length, flat_map, take, drop, Option}
use Rattle.std.proofs.Common.{Some, None, is_some, option_map, slice_get, nat_le, IsTrue, refl, ap, sym, ◌∙◌, subst, arith, length-drop, length-take}
use Rattle.std.specs.List.{list_all, slice_range}
use Rattle.std.specs.Option.{option_map_or}
use Rattle.std.proofs.lemmas.Bool.{and_parts, false≢true}
use Rattle.std.proofs.lemmas.Option.{none-some, same_Some, slice_get-map, slice_get_within}
use Rattle.mv_bound_rules.proofs.PlaceLemmas.{slice_get-first, slice_get-second}
use Rattle.mv_move_types.specs.declared.instruction.Instruction.{Instruction}
use Rattle.mv_move_types.specs.Options.{◌>>=◌}
use Rattle.mv_move_types.specs.Module.{Module, FunctionDefinition}
use Rattle.mv_cfg.specs.declared.Block.{Block}
use Rattle.mv_cfg.specs.declared.Cfg.{Cfg}
use Rattle.mv_cfg.specs.Blocks.{BasicBlock, blocks}
use Rattle.mv_cfg.specs.Graph.{IsBlock}
use Rattle.mv_cfg.specs.FlowGraph.{IsFlowGraph, basic_block_of}
use Rattle.mv_type_rules.specs.TypeRules.{Types, types_after}
use Rattle.mv_type_rules.specs.TypesHold.{types_through, block_is_typed, function_is_typed}
use Rattle.mv_type_rules.specs.Sound.{types_each, types_before}
use Rattle.mv_type_rules.specs.Sound.{types_in}
use Rattle.mv_cfg.proofs.Tiling.{Tiles, blocks-tile}

-- a list stands in another from a place on
pub record Stands {A : Type 0} (xs whole : List A) (at : ℕ) : Type 0 where
  pub each : (j : ℕ) (x : A) → slice_get xs j ≡ Some x → slice_get whole (at + j) ≡ Some x

-- its first element stands there
pub Stands-head : {A : Type 0} (x : A) (xs whole : List A) (at : ℕ) → Stands (x ∷ xs) whole at → slice_get whole at ≡ Some x
Stands-head x xs whole at s = let e : at + 0 ≡ at = omega arith in subst (λ (n : ℕ). slice_get whole n ≡ Some x) e (s.each 0 x refl)

-- and the others stand after it
pub Stands-tail : {A : Type 0} (x : A) (xs whole : List A) (at : ℕ) → Stands (x ∷ xs) whole at → Stands xs whole (suc at)
Stands-tail x xs whole at s = record {
  each = λ j y e. let n : at + suc j ≡ suc at + j = omega arith in subst (λ (n : ℕ). slice_get whole n ≡ Some y) n (s.each (suc j) y e);
}

-- the elements from a place on
at_drop : {A : Type 0} (n : ℕ) (xs : List A) (j : ℕ) → slice_get (drop n xs) j ≡ slice_get xs (n + j)
at_drop zero xs j = let e : 0 + j ≡ j = omega arith in ap (slice_get xs) (sym e)
at_drop (suc n) [] j = refl
at_drop (suc n) (x ∷ xs) j = let e : suc n + j ≡ suc (n + j) = omega arith in at_drop n xs j ∙ ap (slice_get (x ∷ xs)) (sym e)

-- an element of the first ones
at_take : {A : Type 0} (n : ℕ) (xs : List A) (j : ℕ) (x : A) → slice_get (take n xs) j ≡ Some x → slice_get xs j ≡ Some x
at_take zero xs j x e = absurd (none-some x e)
at_take (suc n) [] j x e = absurd (none-some x e)
at_take (suc n) (y ∷ ys) zero x e = e
at_take (suc n) (y ∷ ys) (suc j) x e = at_take n ys j x e

-- a part of a list stands where it begins
pub Stands-range : {A : Type 0} (xs : List A) (first end : ℕ) → Stands (slice_range xs first end) xs first
Stands-range xs first end = record { each = λ j x e. sym (at_drop first xs j) ∙ at_take (end - first) (drop first xs) j x e }

-- how long it is
pub length-range : {A : Type 0} (xs : List A) (first end : ℕ) → end ≤ length xs → length (slice_range xs first end) ≡ end - first
length-range xs first end le = omega (arith, length-take (end - first) (drop first xs), length-drop first xs)

-- where a step of two ends, the first does
pub some-height : {A : Type 0} (b : Bool) (o : Option A) → is_some (cond b o None) ≡ true → is_some o ≡ true
some-height true o h = h
some-height false o h = absurd (false≢true h)

-- blocks end where the code does
pub tiles_within : (bs : List BasicBlock) (at size : ℕ) → Tiles at bs size → at ≤ size
tiles_within [] at size t = omega (arith, t)
tiles_within (b ∷ bs) at size t = let le = tiles_within bs (b.last + 1) size t.1.1 in let one = t.0 in let two = t.1.0 in omega arith

-- a block begins after those before it
pub tiles_after : (bs : List BasicBlock) (at size k : ℕ) (b : BasicBlock) → Tiles at bs size → slice_get bs k ≡ Some b → at ≤ b.first
tiles_after [] at size k b t e = absurd (none-some b e)
tiles_after (c ∷ bs) at size zero b t e =
    let same : c ≡ b = same_Some c b e in let one : c.first ≡ at = t.0 in let two = ap (λ (s : BasicBlock). s.first) same in omega arith
tiles_after (c ∷ bs) at size (suc k) b t e =
    let le = tiles_after bs (c.last + 1) size k b t.1.1 e in let one : c.first ≡ at = t.0 in let two : c.first ≤ c.last = t.1.0 in omega arith

module _ (m : Module) (d : FunctionDefinition) where
  -- as many types as instructions
  pub length-types_each : (is : List Instruction) (types : Types) → is_some (types_through m d is types) ≡ true → length (types_each m d is types) ≡ length is
  length-types_each [] types h = refl
  length-types_each (i ∷ is) types h = by_step (types_after m d i types) (λ after. length-types_each is after) h
    where
      by_step : (o : Option Types) → ((after : Types) → is_some (types_through m d is after) ≡ true → length (types_each m d is after) ≡ length is)
          → is_some (o >>= λ after. cond (nat_le (length after) 128) (types_through m d is after) None) ≡ true
          → suc (length (option_map_or (types_each m d is) o [])) ≡ suc (length is)
      by_step None on h = absurd (false≢true h)
      by_step (Some after) on h = ap suc (on after (some-height (nat_le (length after) 128) (types_through m d is after) h))

  -- a block that is well typed finds its types
  pub typed_some : (b : BasicBlock) → block_is_typed m d b ≡ true → is_some (types_through m d (slice_range d.code b.first (b.last + 1)) []) ≡ true
  typed_some b h = by_end (types_through m d (slice_range d.code b.first (b.last + 1)) []) (λ stack. length stack) h
    where
      by_end : (o : Option Types) (size : Types → ℕ) → option_map_or (λ stack. size stack == 0) o false ≡ true → is_some o ≡ true
      by_end None size h = absurd (false≢true h)
      by_end (Some stack) size h = refl

  -- the types before a block's instructions stand among those of the function
  types_there : (bs : List BasicBlock) (at : ℕ) → Tiles at bs (length d.code) → list_all (block_is_typed m d) bs ≡ true
      → (k : ℕ) (b : BasicBlock) → slice_get bs k ≡ Some b
      → (n j : ℕ) (x : Types) → at + n ≡ b.first + j → slice_get (types_in m d b) j ≡ Some x → slice_get (flat_map (types_in m d) bs) n ≡ Some x
  types_there [] at t typed k b e n j x eq found = absurd (none-some b e)
  types_there (c ∷ bs) at t typed zero b e n j x eq found =
      let same : c ≡ b = same_Some c b e in
      let one : c.first ≡ at = t.0 in
      let two = ap (λ (s : BasicBlock). s.first) same in
      let place : j ≡ n = omega arith in
      let here : slice_get (types_in m d c) n ≡ Some x =
      subst (λ (s : BasicBlock). slice_get (types_in m d s) n ≡ Some x) (sym same) (subst (λ (i : ℕ). slice_get (types_in m d b) i ≡ Some x) place found) in
      slice_get-first (types_in m d c) (flat_map (types_in m d) bs) n (slice_get_within (types_in m d c) n x here) ∙ here
  types_there (c ∷ bs) at t typed (suc k) b e n j x eq found =
      let p = and_parts (block_is_typed m d c) (list_all (block_is_typed m d) bs) typed in
      let one : c.first ≡ at = t.0 in
      let two : c.first ≤ c.last = t.1.0 in
      let within : c.last + 1 ≤ length d.code = tiles_within bs (c.last + 1) (length d.code) t.1.1 in
      let after : c.last + 1 ≤ b.first = tiles_after bs (c.last + 1) (length d.code) k b t.1.1 e in
      let size : length (types_in m d c) ≡ c.last + 1 - c.first =
      length-types_each (slice_range d.code c.first (c.last + 1)) [] (typed_some c p.0) ∙ length-range d.code c.first (c.last + 1) within in
      let sum : length (types_in m d c) + (n - length (types_in m d c)) ≡ n = omega arith in
      let next : c.last + 1 + (n - length (types_in m d c)) ≡ b.first + j = omega arith in
      slice_get-second (types_in m d c) (flat_map (types_in m d) bs) n (n - length (types_in m d c)) sum
      ∙ types_there bs (c.last + 1) t.1.1 p.1 k b e (n - length (types_in m d c)) j x next found

  -- the same of the block at a place
  pub Stands-types : (k : ℕ) (b : BasicBlock) → IsTrue (function_is_typed m d) → slice_get (blocks d.code) k ≡ Some b
      → Stands (types_in m d b) (types_before m d) b.first
  Stands-types k b typed e = record {
    each = λ j x found. types_there (blocks d.code) 0 (blocks-tile d.code) typed k b e (b.first + j) j x (omega arith) found;
  }

-- a block of the graph is one of the code's
pub block_at : (code : List Instruction) (g : Cfg) (k : ℕ) (b : Block) → IsFlowGraph code g → IsBlock g k b
    → slice_get (blocks code) k ≡ Some (basic_block_of g b)
block_at code g k b fg here =
    ap (λ z. slice_get z k) (sym fg.basic_blocks) ∙ slice_get-map (basic_block_of g) g.blocks.items k ∙ ap (option_map (basic_block_of g)) here
