-- The blocks of a function's code are those of its flow graph, with their marks.
use Rattle.mv_certificate.proofs.Common.{ℕ, ◌∙◌, ◌≡◌, IsTrue, List, None, Option, Some, ap, is_some, length, map, option_map, refl, slice_get, subst, sym}
use Rattle.mv_certificate.proofs.Common.{length-map, none-some, same_Some, slice_get-map, list_all, FunctionDefinition, Module, Instruction, BasicBlock, blocks}
use Rattle.mv_certificate.proofs.Common.{IsFlowGraph, basic_block_of, Block, Cfg, Known, Stated, StatedFits}
use Rattle.mv_cfg.specs.Blocks.{IsReached}
use Rattle.mv_certificate.proofs.Texts.{block_fits}
pub use Rattle.mv_binary_format.proofs.Back.{all-are_bytes as all-bytes}

-- what a mapped option holds
abbrev pub Comes : {A B : Type 0} → (A → B) → Option A → B → Type 0
Comes {A} f o y = (x : A) × (o ≡ Some x) × (f x ≡ y)

pub comes : {A B : Type 0} (f : A → B) (o : Option A) (y : B) → option_map f o ≡ Some y → Comes f o y
comes f None y e = absurd (none-some y e)
comes f (Some x) y e = (x, refl, same_Some (f x) y e)

-- a block of the code is one of the graph's
pub block_of : (code : List Instruction) (g : Cfg) (i : ℕ) (b : BasicBlock) → IsFlowGraph code g → slice_get (blocks code) i ≡ Some b → Comes (basic_block_of g) (slice_get g.blocks.items i) b
block_of code g i b fg e =
    comes (basic_block_of g) (slice_get g.blocks.items i) b
    (sym (slice_get-map (basic_block_of g) g.blocks.items i) ∙ ap (λ z. slice_get z i) fg.basic_blocks ∙ e)

-- the mark of what is stated of a block
pub mark_of : (ks : Stated) (parts : List Block) (i : ℕ) (k : Option Known) (b : Block) → map is_some ks ≡ map (λ p. p.reached) parts
    → slice_get ks i ≡ Some k → slice_get parts i ≡ Some b → is_some k ≡ b.reached
mark_of ks parts i k b e ki bi =
    same_Some (is_some k) b.reached
    (ap (option_map is_some) (sym ki) ∙ sym (slice_get-map is_some ks i) ∙ ap (λ z. slice_get z i) e ∙ slice_get-map (λ (p : Block). p.reached) parts i ∙ ap (option_map (λ (p : Block). p.reached)) bi)

-- what has the marks of the flow graph, and fits block by block, fits the function
pub stated-fits : (m : Module) (d : FunctionDefinition) (g : Cfg) (ks : Stated) → IsFlowGraph d.code g → map is_some ks ≡ map (λ p. p.reached) g.blocks.items
    → IsTrue (list_all (block_fits m d) ks) → StatedFits m d ks
stated-fits m d g ks fg marks ok = record {
  long = sym (length-map ks is_some) ∙ ap length marks ∙ length-map g.blocks.items (λ (p : Block). p.reached) ∙ sym (length-map g.blocks.items (basic_block_of g)) ∙ ap length fg.basic_blocks;
  marks = λ i b k bi ki.
      let p = block_of d.code g i b fg bi in
      let same : is_some k ≡ p.0.reached = mark_of ks g.blocks.items i k p.0 marks ki p.1 in
      let first : p.0.first ≡ b.first = ap (λ (s : BasicBlock). s.first) p.2 in
      let r = fg.reached i p.0 p.1 in
      (λ h. subst (IsReached d.code) first (r.0 (sym same ∙ h)), λ h. (same ∙ r.1 (subst (IsReached d.code) (sym first) h)));
  fits = ok;
}
