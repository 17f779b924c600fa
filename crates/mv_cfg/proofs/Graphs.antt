-- The blocks of code as a flow graph.
use Rattle.std.proofs.Common.{◌≡◌, ◌↔◌, ℕ, ◌+◌, ◌-◌, ◌<◌, ◌≤◌, true, List, [], ◌∷◌, length, map, get_or, slice_get, Some, IsTrue, All, Contains, refl}
use Rattle.std.proofs.Common.{sym, ap, ◌∙◌, subst, arith, zero, suc, option_map}
use Rattle.std.specs.Option.{option_map_or}
use Rattle.std.proofs.lemmas.List.{length-map}
use Rattle.std.proofs.lemmas.List.Elements.{All-map, All-weaker, All-same, All-contains}
use Rattle.std.proofs.lemmas.Option.{slice_get_within, slice_get_read, none-some, same_Some, slice_get-map, get_or_from_slice_get}
use Rattle.mv_move_types.specs.declared.instruction.Instruction.{Instruction}
use Rattle.mv_cfg.specs.declared.Block.{Block}
use Rattle.mv_cfg.specs.declared.Cfg.{Cfg}
use Rattle.mv_cfg.specs.Blocks.{BasicBlock, blocks, block_between, leads_to, ends_well, IsReached as IsReachedInCode, at_start, onward}
use Rattle.mv_cfg.specs.Graph.{IsBlock, HasEdge, IsReached, at_entry, along}
use Rattle.mv_cfg.specs.FlowGraph.{first_of, basic_block_of, IsFlowGraph}
use Rattle.mv_cfg.specs.Steps.{starts, BranchesInside, IsPlaced, IsSplit, IsLinked}
use Rattle.mv_cfg.proofs.Beginnings.{ascending-at, ascending-same, blocks_at-get, length-blocks_at}
use Rattle.mv_cfg.proofs.Leads.{starts-ascending, leads-begin}
use Rattle.mv_cfg.proofs.Tables.{placed-at}
use Rattle.mv_bound_rules.proofs.Entries.{element_at, Contains-at, at-Contains, mapped-at}

-- lists with the same elements
same_elements : {A : Type 0} (xs ys : List A) → length xs ≡ length ys → ((k : ℕ) (x y : A) → slice_get xs k ≡ Some x → slice_get ys k ≡ Some y → x ≡ y) → xs ≡ ys
same_elements [] [] size each = refl
same_elements [] (y ∷ ys) size each = absurd (omega arith)
same_elements (x ∷ xs) [] size each = absurd (omega arith)
same_elements (x ∷ xs) (y ∷ ys) size each = rw (each zero x y refl refl, same_elements xs ys (omega arith) (λ k a b ea eb. each (suc k) a b ea eb)) refl

-- numbers that are found again
found_again : (f h : ℕ → ℕ) (xs : List ℕ) → All (λ x. f (h x) ≡ x) xs → map f (map h xs) ≡ xs
found_again f h [] all = refl
found_again f h (x ∷ xs) all = rw (all 0 x (omega arith), found_again f h xs (λ k d less. all (suc k) d (omega arith))) refl

-- the first block begins where the code does
zero_first : (code : List Instruction) → get_or (starts code) 0 0 ≡ 0
zero_first [] = refl
zero_first (c ∷ cs) = refl

-- a path of one graph is a path of another with its edges
pub reached_along : (g new : Cfg) → ((k n : ℕ) → HasEdge g k n → HasEdge new k n) → (k : ℕ) → IsReached g k → IsReached new k
reached_along g new edges _ at_entry = at_entry
reached_along g new edges _ (along {k} {n} from edge) = along (reached_along g new edges k from) (edges k n edge)

module _ (code : List Instruction) (places : List ℕ) (g : Cfg) (well : IsTrue (ends_well code)) (inside : BranchesInside code)
    (placed : IsPlaced (length code) (starts code) places) (split : IsSplit code (starts code) places g.blocks.items) where
  within : (k : ℕ) (b : Block) → IsBlock g k b → k < length (starts code)
  within k b at = let h : k < length g.blocks.items = slice_get_within g.blocks.items k b at in omega (arith, split.count)

  end_is : (k : ℕ) → get_or (starts code) (k + 1) (length code) ≡ get_or (starts code) (suc k) (length code)
  end_is k = ap (λ j. get_or (starts code) j (length code)) (let e : k + 1 ≡ suc k = omega arith in e)

  last_is : (k : ℕ) (b : Block) → IsBlock g k b → b.last ≡ get_or (starts code) (suc k) (length code) - 1
  last_is k b at = (split.each k b at).last ∙ ap (λ n. n - 1) (end_is k)

  leads : (k : ℕ) (b : Block) → IsBlock g k b → All (Contains (starts code)) (leads_to code b.last)
  leads k b at = subst (λ n. All (Contains (starts code)) (leads_to code n)) (sym (last_is k b at)) (leads-begin code well inside k (within k b at) (get_or (starts code) (suc k) (length code)) refl)

  bounds : (k : ℕ) (b : Block) → IsBlock g k b → (b.first ≤ b.last) × (b.last < length code)
  bounds k b at =
      let up = ascending-at 0 (length code) (starts code) k (starts-ascending code) (within k b at) in
      let low : get_or (starts code) k 0 < get_or (starts code) (suc k) (length code) = up.1.0 in
      let high : get_or (starts code) (suc k) (length code) ≤ length code = up.1.1 in
      let first : b.first ≡ get_or (starts code) k 0 = (split.each k b at).first in
      let last : b.last ≡ get_or (starts code) (suc k) (length code) - 1 = last_is k b at in (omega arith, omega arith)

  -- a successor is the block that begins where the last instruction leads
  first_at : (k : ℕ) → k < length (starts code) → first_of g k ≡ get_or (starts code) k 0
  first_at k h =
      let found = element_at g.blocks.items k (omega (arith, split.count)) in
      ap (λ o. option_map_or (λ (b : Block). b.first) o 0) found.1 ∙ (split.each k found.0 found.1).first

  leads_back : (n : ℕ) → Contains (starts code) n → first_of g (get_or places n 0) ≡ n
  leads_back n h = let there = placed-at (length code) (starts code) places placed n h in first_at (get_or places n 0) there.0 ∙ there.1

  successors_inside : (k : ℕ) (b : Block) → IsBlock g k b → All (λ n. n < length g.blocks.items) b.successors.items
  successors_inside k b at =
      All-same (λ n. n < length g.blocks.items) b.successors.items (map (λ i. get_or places i 0) (leads_to code b.last)) (split.each k b at).successors
      (All-map (λ n. n < length g.blocks.items) (λ i. get_or places i 0) (leads_to code b.last)
      (All-weaker (Contains (starts code)) (λ i. get_or places i 0 < length g.blocks.items) (λ i h. let there = placed-at (length code) (starts code) places placed i h in omega (arith, there.0, split.count)) (leads_to code b.last) (leads k b at)))

  next_is : (k : ℕ) (b : Block) → IsBlock g k b → map (first_of g) b.successors.items ≡ leads_to code b.last
  next_is k b at =
      ap (map (first_of g)) (split.each k b at).successors
      ∙ found_again (first_of g) (λ i. get_or places i 0) (leads_to code b.last) (All-weaker (Contains (starts code)) (λ n. first_of g (get_or places n 0) ≡ n) leads_back (leads_to code b.last) (leads k b at))

  block_is : (k : ℕ) (b : Block) → IsBlock g k b → block_between code (get_or (starts code) k 0) (get_or (starts code) (suc k) (length code)) ≡ basic_block_of g b
  block_is k b at = rw (next_is k b at, (split.each k b at).first, last_is k b at) refl

  pub basic_blocks_are : map (basic_block_of g) g.blocks.items ≡ blocks code
  basic_blocks_are =
      same_elements (map (basic_block_of g) g.blocks.items) (blocks code)
      (let a : length (map (basic_block_of g) g.blocks.items) ≡ length g.blocks.items = length-map g.blocks.items (basic_block_of g) in let b : length (blocks code) ≡ length (starts code) = length-blocks_at code (starts code) in omega (arith, split.count))
      (λ k x y mine its.
      let back = mapped-at (basic_block_of g) g.blocks.items k x mine in
      let other = blocks_at-get code (starts code) k (within k back.0 back.1) in sym back.2 ∙ sym (block_is k back.0 back.1) ∙ same_Some _ y (sym other ∙ its))

  some_block : 0 < length (starts code)
  some_block = some code well
    where
      some : (cs : List Instruction) → IsTrue (ends_well cs) → 0 < length (starts cs)
      some [] w = absurd (let none : ⊥ = cc in none)
      some (c ∷ cs) w = omega arith

  pub linked : IsLinked g
  linked = record { has_entry = omega (arith, some_block, split.count); inside = successors_inside }

  -- two blocks that begin at one instruction are one
  same_block : (j k : ℕ) (a b : Block) → IsBlock g j a → IsBlock g k b → a.first ≡ b.first → j ≡ k
  same_block j k a b ea eb e =
      ascending-same 0 (length code) (starts code) j k (starts-ascending code) (within j a ea) (within k b eb) (sym (split.each j a ea).first ∙ e ∙ (split.each k b eb).first)

  -- a path of blocks is one of the code's blocks
  in_code : (k : ℕ) → IsReached g k → (b : Block) → IsBlock g k b → IsReachedInCode code b.first
  in_code _ at_entry b at = subst (IsReachedInCode code) (sym ((split.each 0 b at).first ∙ (zero_first code))) at_start
  in_code _ (along {k} {n} from (x, there, out)) b at =
      let found : Contains (blocks code) (basic_block_of g x) =
      subst (λ (ss : List BasicBlock). Contains ss (basic_block_of g x)) basic_blocks_are (at-Contains (map (basic_block_of g) g.blocks.items) k (basic_block_of g x) (slice_get-map (basic_block_of g) g.blocks.items k ∙ ap (option_map (basic_block_of g)) there)) in
      let succ = Contains-at x.successors.items n out in
      let goes : Contains (map (first_of g) x.successors.items) (first_of g n) =
      at-Contains (map (first_of g) x.successors.items) succ.0 (first_of g n) (slice_get-map (first_of g) x.successors.items succ.0 ∙ ap (option_map (first_of g)) succ.1) in
      let begins : first_of g n ≡ b.first = ap (λ o. option_map_or (λ (y : Block). y.first) o 0) at in
      onward (basic_block_of g x) b.first found (in_code k from x there) (subst (Contains (map (first_of g) x.successors.items)) begins goes)

  from_code : (i : ℕ) → IsReachedInCode code i → (k : ℕ) × (b : Block) × IsBlock g k b × IsReached g k × (b.first ≡ i)
  from_code _ at_start = let found = element_at g.blocks.items 0 (omega (arith, some_block, split.count)) in (0, found.0, found.1, at_entry, (split.each 0 found.0 found.1).first ∙ (zero_first code))
  from_code _ (onward block i has from next) =
      let (j, a, ea, path, begins) = from_code block.first from in
      let place = Contains-at (blocks code) block has in
      let back = mapped-at (basic_block_of g) g.blocks.items place.0 block (subst (λ (ss : List BasicBlock). slice_get ss place.0 ≡ Some block) (sym basic_blocks_are) place.1) in
      let one : place.0 ≡ j = same_block place.0 j back.0 a back.1 ea (ap (λ (s : BasicBlock). s.first) back.2 ∙ sym begins) in
      let out = Contains-at (map (first_of g) back.0.successors.items) i (subst (λ (s : BasicBlock). Contains s.next i) (sym back.2) next) in
      let to = mapped-at (first_of g) back.0.successors.items out.0 i out.1 in
      let here : Contains back.0.successors.items to.0 = at-Contains back.0.successors.items out.0 to.0 to.1 in
      let small : to.0 < length g.blocks.items = All-contains (λ n. n < length g.blocks.items) back.0.successors.items to.0 (successors_inside place.0 back.0 back.1) here in
      let found = element_at g.blocks.items to.0 small in
      (to.0, found.0, found.1, along path (subst (λ (m : ℕ). HasEdge g m to.0) one (back.0, back.1, here)), sym (ap (λ o. option_map_or (λ (y : Block). y.first) o 0) found.1) ∙ to.2)

  same_paths : (k : ℕ) (b : Block) → IsBlock g k b → IsReached g k ↔ IsReachedInCode code b.first
  same_paths k b at = (
    λ path. in_code k path b at,
    λ path.
        let (j, a, ea, leads_there, begins) = from_code b.first path in
        subst (IsReached g) (same_block j k a b ea at begins) leads_there,
  )

  -- the marks say which blocks are reached
  pub IsFlowGraph-from_marks : ((k : ℕ) (b : Block) → IsBlock g k b → (b.reached ≡ true) ↔ IsReached g k) → IsFlowGraph code g
  IsFlowGraph-from_marks marks = record {
    ends = well;
    graph = record {
      has_entry = linked.has_entry;
      starts = λ k b at. (bounds k b at).0;
      ends = λ k b at. (bounds k b at).1;
      inside = successors_inside;
      marks = marks;
    };
    basic_blocks = basic_blocks_are;
    reached = λ k b at. (λ e. (same_paths k b at).0 ((marks k b at).0 e), λ path. (marks k b at).1 ((same_paths k b at).1 path));
  }
