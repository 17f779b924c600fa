-- What the states of a function, their order and their join have to keep.
use Rattle.std.specs.Prelude.{◌≡◌, ℕ, ◌<◌, Some, Contains}
use Rattle.mv_cfg.specs.declared.Block.{Block}
use Rattle.mv_cfg.specs.declared.Cfg.{Cfg}
use Rattle.mv_cfg.specs.Graph.{IsBlock}
use Rattle.mv_lattice.specs.Flow.{through}
use Rattle.mv_lattice.specs.Order.{Order}

-- c is a least state above a and b
pub record IsLeastAbove {S : Type 0} (o : Order S) (a b c : S) : Type 0 where
  pub valid : o.is_state c
  pub left : o.below a c
  pub right : o.below b c
  pub least : (u : S) → o.is_state u → o.below a u → o.below b u → o.below c u

-- the order is one, a join is a least state above both, a step is one of the states and keeps the order, and a block that goes on leads from block starts to
-- block starts, which joins keep
pub record IsLawful {S : Type 0} (o : Order S) : Type 0 where
  pub reflexive : (a : S) → o.is_state a → o.below a a
  pub transitive : (a b c : S) → o.is_state a → o.is_state b → o.is_state c → o.below a b → o.below b c → o.below a c
  pub joins : (a b : S) → o.is_state a → o.is_state b → IsLeastAbove o a b (o.joined a b)
  pub joins_begin : (a b : S) → o.is_state a → o.is_state b → o.may_begin a → o.may_begin b → o.may_begin (o.joined a b)
  pub keeps : (at : ℕ) (a b : S) → at < o.size → o.is_state a → o.steps at a ≡ Some b → o.is_state b
  pub monotone : (at : ℕ) (a b v : S) → at < o.size → o.is_state a → o.is_state b → o.below a b → o.steps at b ≡ Some v → (u : S) × ((o.steps at a ≡ Some u) × o.below u v)
  pub begins : (g : Cfg) (k n : ℕ) (b : Block) (a t : S) → o.is_graph g → IsBlock g k b → Contains b.successors.items n
      → o.is_state a → o.may_begin a → through o.steps b a ≡ Some t → o.may_begin t
