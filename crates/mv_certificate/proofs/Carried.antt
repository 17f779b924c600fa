-- A state that is carried from place to place becomes what the rule makes of it, one instruction after another.
use Rattle.mv_certificate.proofs.Common.{[], ℕ, ◌+◌, ◌-◌, ◌<◌, ◌∷◌, ◌≡◌, IsTrue, List, None, Option, Some, arith, cond, is_some, length, nat_le, refl, slice_get, subst, suc, true, all_at}
use Rattle.mv_certificate.proofs.Common.{false≢true, option_map_or, FunctionDefinition, Module, ◌>>=◌, Instruction, BasicBlock, blocks, IsFlowGraph, basic_block_of, Block, Cfg}
use Rattle.mv_certificate.proofs.Common.{types_before, Types, function_is_typed, block_at, Rule, instructions_of, through}
use Rattle.std.proofs.Common.{option_and_then}
use Rattle.mv_cfg.specs.Graph.{IsBlock}
use Rattle.mv_type_rules.specs.TypeRules.{types_after}
use Rattle.mv_type_rules.specs.TypesHold.{types_through, block_is_typed}
use Rattle.mv_type_rules.specs.Sound.{types_each}
use Rattle.mv_lattice.specs.Flow.{carried}
use Rattle.mv_borrow_graph.specs.Laws.BlockTypes.{Stands, Stands-head, Stands-tail, Stands-range, Stands-types, length-range, some-height, typed_some}

-- both are there and related, or neither is
abbrev pub Alike : {S T : Type 0} → (S → T → Type 0) → Option S → Option T → Type 0
Alike R None None = Unit {0}
Alike R None (Some t) = ⊥
Alike R (Some s) None = ⊥
Alike R (Some s) (Some t) = R s t

-- a rule and a step at places do alike
abbrev pub DoAlike : {S : Type 0} → Rule S → (ℕ → S → Option S) → (S → S → Type 0) → Module → FunctionDefinition → Type 0
DoAlike {S} rule step R m d =
    (at : ℕ) (i : Instruction) (types : Types) (s t : S) → slice_get d.code at ≡ Some i → slice_get (types_before m d) at ≡ Some types → R s t
    → Alike R (step at s) (rule (record { home = m; function = d; types = types }) i t)

-- a state is related to one that stands beside types
abbrev pub Ends : {S : Type 0} → (S → S → Type 0) → S → S × Types → Type 0
Ends R s end = R s end.0

module _ (S : Type 0) (rule : Rule S) (step : ℕ → S → Option S) (R : S → S → Type 0) (m : Module) (d : FunctionDefinition) (alike : DoAlike rule step R m d) where
  -- some instructions carry a state to one that is related to what the rule makes of a related one
  through_alike : (is : List Instruction) (at : ℕ) (types : Types) (s t : S) → Stands is d.code at → Stands (types_each m d is types) (types_before m d) at
      → is_some (types_through m d is types) ≡ true → R s t → Alike (Ends R) (carried step at (length is) s) (through rule m d is (t, types))
  through_alike [] at types s t code known typed r = r
  through_alike (i ∷ is) at types s t code known typed r =
      by_step (step at s) (rule (record { home = m; function = d; types = types }) i t) (types_after m d i types) refl
      (alike at i types s t (Stands-head i is d.code at code) (Stands-head types (option_map_or (types_each m d is) (types_after m d i types) []) (types_before m d) at known) r)
      typed (λ after u v. through_alike is (suc at) after u v (Stands-tail i is d.code at code))
    where
      by_step : (o1 o2 : Option S) (o3 : Option Types) → types_after m d i types ≡ o3 → Alike R o1 o2
          → is_some (o3 >>= λ after. cond (nat_le (length after) 128) (types_through m d is after) None) ≡ true
          → ((after : Types) (u v : S) → Stands (types_each m d is after) (types_before m d) (suc at) → is_some (types_through m d is after) ≡ true
          → R u v → Alike (Ends R) (carried step (suc at) (length is) u) (through rule m d is (v, after)))
          → Alike (Ends R) (option_and_then (carried step (suc at) (length is)) o1) (o2 >>= λ known. o3 >>= λ ts. through rule m d is (known, ts))
      by_step None None o3 e a h on = tt
      by_step None (Some v) o3 e a h on = absurd a
      by_step (Some u) None o3 e a h on = absurd a
      by_step (Some u) (Some v) None e a h on = absurd (false≢true h)
      by_step (Some u) (Some v) (Some after) e a h on =
          on after u v
          (subst (λ (o : Option Types). Stands (option_map_or (types_each m d is) o []) (types_before m d) (suc at)) e (Stands-tail types (option_map_or (types_each m d is) (types_after m d i types) []) (types_before m d) at known))
          (some-height (nat_le (length after) 128) (types_through m d is after) h) a

  -- so does a block
  pub block_alike : (self : (s : S) → R s s) (g : Cfg) → IsFlowGraph d.code g → IsTrue (function_is_typed m d) → (k : ℕ) (b : Block) (s : S) → IsBlock g k b
      → Alike (Ends R) (carried step b.first (b.last + 1 - b.first) s) (through rule m d (instructions_of d (basic_block_of g b)) (s, []))
  block_alike self g fg typed k b s here =
      let st : BasicBlock = basic_block_of g b in
      let at : slice_get (blocks d.code) k ≡ Some st = block_at d.code g k b fg here in
      let last : b.last < length d.code = fg.graph.ends k b here in
      let size : length (instructions_of d st) ≡ b.last + 1 - b.first = length-range d.code b.first (b.last + 1) (omega arith) in
      subst (λ n. Alike (Ends R) (carried step b.first n s) (through rule m d (instructions_of d st) (s, []))) size
      (through_alike (instructions_of d st) b.first [] s s (Stands-range d.code b.first (b.last + 1)) (Stands-types m d k st typed at)
      (typed_some m d st (all_at (block_is_typed m d) (blocks d.code) k st typed at)) (self s))
