-- Which values are of which types.
use Rattle.std.specs.Prelude.{List, [], ◌∷◌}
use Rattle.mv_move_types.specs.Tags.{Tag}
use Rattle.mv_machine.specs.Value.{Value}
use Rattle.mv_soundness.specs.Typing.HasType.{Table, Roots, HasType}

module _ (table : Table) where
  -- values are of types, one each
  abbrev pub HaveTypes : Roots → List Value → List Tag → Type 0
  HaveTypes look [] [] = Unit {0}
  HaveTypes look [] (t ∷ ts) = ⊥
  HaveTypes look (v ∷ vs) [] = ⊥
  HaveTypes look (v ∷ vs) (t ∷ ts) = HasType table look v t × HaveTypes look vs ts
