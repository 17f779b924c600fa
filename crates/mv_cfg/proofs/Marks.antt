-- Blocks with marks and without have the same paths.
use Rattle.std.proofs.Common.{ℕ, ◌<◌, Bool, List, length, map, get_or, Contains, IsTrue, sym, ap, ◌∙◌, subst, arith}
use Rattle.std.proofs.lemmas.Option.{slice_get_within}
use Rattle.mv_move_types.specs.declared.instruction.Instruction.{Instruction}
use Rattle.mv_cfg.specs.declared.Block.{Block}
use Rattle.mv_cfg.specs.declared.Cfg.{Cfg}
use Rattle.mv_cfg.specs.Blocks.{leads_to, ends_well}
use Rattle.mv_cfg.specs.Graph.{IsBlock, HasEdge}
use Rattle.mv_cfg.specs.FlowGraph.{IsFlowGraph}
use Rattle.mv_cfg.specs.Steps.{starts, BranchesInside, IsPlaced, IsSplit, IsReachedMarks, IsMarkedAs}
use Rattle.mv_cfg.proofs.Graphs.{reached_along, IsFlowGraph-from_marks}
use Rattle.mv_bound_rules.proofs.Entries.{element_at}

module _ (g new : Cfg) (marks : List Bool) (same : IsMarkedAs g.blocks.items marks new.blocks.items) where
  -- the block before it was marked, and after
  before : (k : ℕ) (c : Block) → IsBlock new k c → (b : Block) × IsBlock g k b
  before k c at = let h : k < length new.blocks.items = slice_get_within new.blocks.items k c at in element_at g.blocks.items k (omega (arith, same.count))

  after : (k : ℕ) (b : Block) → IsBlock g k b → (c : Block) × IsBlock new k c
  after k b at = let h : k < length g.blocks.items = slice_get_within g.blocks.items k b at in element_at new.blocks.items k (omega (arith, same.count))

  edge_on : (k n : ℕ) → HasEdge g k n → HasEdge new k n
  edge_on k n (b, at, out) =
      let c = after k b at in (c.0, c.1, subst (λ (xs : List ℕ). Contains xs n) (sym (same.each k b c.0 at c.1).successors) out)

  edge_back : (k n : ℕ) → HasEdge new k n → HasEdge g k n
  edge_back k n (c, at, out) =
      let b = before k c at in (b.0, b.1, subst (λ (xs : List ℕ). Contains xs n) (same.each k b.0 c b.1 at).successors out)

  split_on : (code : List Instruction) (firsts places : List ℕ) → IsSplit code firsts places g.blocks.items → IsSplit code firsts places new.blocks.items
  split_on code firsts places p = record {
    count = same.count ∙ p.count;
    each = λ k c at.
        let b = before k c at in
        let was = p.each k b.0 b.1 in
        let is = same.each k b.0 c b.1 at in record {
          first = is.first ∙ was.first;
          last = is.last ∙ was.last;
          successors = is.successors ∙ was.successors ∙ ap (λ n. map (λ i. get_or places i 0) (leads_to code n)) (sym is.last);
        };
  }

  -- the marked blocks are the code's flow graph
  pub IsFlowGraph-marked : (code : List Instruction) (places : List ℕ) → IsTrue (ends_well code) → BranchesInside code
      → IsPlaced (length code) (starts code) places → IsSplit code (starts code) places g.blocks.items → IsReachedMarks g marks → IsFlowGraph code new
  IsFlowGraph-marked code places well inside placed split paths =
      IsFlowGraph-from_marks code places new well inside placed (split_on code (starts code) places split) (λ k c at.
      let b = before k c at in
      let is = (same.each k b.0 c b.1 at).reached in
      let h : k < length g.blocks.items = slice_get_within g.blocks.items k b.0 b.1 in
      let says = paths.each k (omega (arith, paths.size)) in (
        λ e. reached_along g new edge_on k (says.0 (sym is ∙ e)),
        λ path. is ∙ says.1 (reached_along new g edge_back k path),
      ))
